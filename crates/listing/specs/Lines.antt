-- A line of print. Assumes nothing.
use Rattle.std.specs.Prelude.{ℕ, List, [], ◌∷◌, ◌++◌}

-- the byte between two words, and the byte after the last
abbrev pub space : ℕ
space = 32

abbrev pub line_end : ℕ
line_end = 10

-- words with one space between, and the end of the line
abbrev pub line : List (List ℕ) → List ℕ
line [] = line_end ∷ []
line (word ∷ []) = word ++ (line_end ∷ [])
line (word ∷ next ∷ words) = word ++ (space ∷ line (next ∷ words))
