-- A line, its last word apart. Assumes nothing.
use Rattle.std.proofs.Common.{◌≡◌, ℕ, List, [], ◌∷◌, ◌++◌, map, refl, ap, ◌∙◌}
use Rattle.std.specs.List.{flat_map}
use Rattle.std.proofs.lemmas.List.{append_assoc}
use Rattle.listing.specs.declared.sheet.Word.{Word}
use Rattle.listing.specs.Lines.{line}
use Rattle.listing.specs.Words.{word_text}

-- a word and the space after it
abbrev pub spaced : Word → List ℕ
spaced word = word_text word ++ (32 ∷ [])

-- each word but the last has a space after it
pub line_ends : (words : List Word) (last : Word) → flat_map spaced words ++ (word_text last ++ (10 ∷ [])) ≡ line (map word_text (words ++ last ∷ []))
line_ends [] last = refl
line_ends (word ∷ []) last = append_assoc (word_text word ++ (32 ∷ [])) [] _ ∙ append_assoc (word_text word) (32 ∷ []) _
line_ends (word ∷ next ∷ words) last =
    append_assoc (spaced word) (flat_map spaced (next ∷ words)) (word_text last ++ (10 ∷ []))
    ∙ append_assoc (word_text word) (32 ∷ []) _
    ∙ ap (λ text. word_text word ++ (32 ∷ text)) (line_ends (next ∷ words) last)
