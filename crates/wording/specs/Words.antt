-- The words of a text, which stand between white space, and the whole numbers that words say. Assumes nothing.
use Rattle.std.specs.Prelude.{◌≡◌, ℕ, ◌<◌, List, [], ◌∷◌, ◌++◌, length, ℤ, Ok, Result}
use Rattle.std.specs.Int.{Width}
use Rattle.std.specs.Str.Parse.{ParsesUnsigned, ParsesSigned}
use Rattle.std.specs.Char.{is_whitespace, is_not_whitespace}
use Rattle.std.specs.Str.{NoCharPasses, EmptyOrStartsWithPassing}

-- a text that has no word: it is white space alone
abbrev pub NoWord : List ℕ → Type 0
NoWord text = NoCharPasses is_not_whitespace text

-- a text before which a word ends: it is empty, or begins with white space
abbrev pub WordEnds : List ℕ → Type 0
WordEnds rest = (more : List ℕ) × EmptyOrStartsWithPassing is_whitespace rest more

-- a text is white space, a word, and the rest, before which the word ends
pub record NextWord (text word rest : List ℕ) : Type 0 where
  pub gap : List ℕ
  pub parts : text ≡ gap ++ (word ++ rest)
  pub blank : NoCharPasses is_not_whitespace gap
  pub unbroken : NoCharPasses is_whitespace word
  pub some : 0 < length word
  pub ended : WordEnds rest

-- the words of a text, in their order
abbrev pub Words : List ℕ → List (List ℕ) → Type 0
Words text [] = NoWord text
Words text (word ∷ words) = (rest : List ℕ) × NextWord text word rest × Words rest words

-- a word says a whole number of so many bits, in decimal
abbrev pub Says : ℕ → List ℕ → ℕ → Type 0
Says bits word n = ParsesUnsigned {E = ℕ} bits 10 word (Ok n)

-- a word says a whole number of this width that may be negative, in decimal
abbrev pub SaysSigned : Width → List ℕ → ℤ → Type 0
SaysSigned width word z = ParsesSigned {E = ℕ} width 10 word (Ok z)

-- the next word of a text reads as a value
abbrev pub NextReads : {X E : Type 0} → (List ℕ → Result X E → Type 0) → List ℕ → X → List ℕ → Type 0
NextReads reads text x rest = (word : List ℕ) × NextWord text word rest × reads word (Ok x)
