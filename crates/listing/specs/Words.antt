-- A word of a line of print. Assumes nothing.
use Rattle.std.specs.Prelude.{ℕ, ◌+◌, ◌*◌, List, codes, decimal}
use Rattle.std.specs.Fmt.{signed_decimal}
use Rattle.listing.specs.declared.sheet.Word.{Word}
use Rattle.listing.specs.declared.sheet.Word.TheVariants.{Open, Fault, Number, Amount}

-- the text of a word
abbrev pub word_text : Word → List ℕ
word_text Open = codes "OPEN"
word_text Fault = codes "FAULT"
word_text (Number n) = decimal n
word_text (Amount z) = signed_decimal z

-- the bytes of a word at most, and of a line of so many words
abbrev pub most_word : ℕ
most_word = 20

abbrev pub most_line : ℕ → ℕ
most_line words = (most_word + 1) * words + 1
