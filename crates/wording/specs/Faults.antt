-- What is wrong with a line where a word or a number was to come, or the end, and what is printed of it. Assumes nothing.
use Rattle.std.specs.Prelude.{◌≡◌, ℕ, List, ◌++◌, Err, Result, codes}
use Rattle.wording.specs.declared.words.Fault.{Fault}
use Rattle.wording.specs.declared.words.Fault.TheVariants.{Empty, UnknownRequest, Missing, NotANumber, Superfluous}
use Rattle.wording.specs.Words.{NoWord, NextWord}

-- no word is left for what `name` says
abbrev pub IsMissing : List ℕ → List ℕ → Fault → Type 0
IsMissing name text Empty = ⊥
IsMissing name text (UnknownRequest word advice) = ⊥
IsMissing name text (Missing missing) = (missing.now ≡ name) × NoWord text
IsMissing name text (NotANumber field word) = ⊥
IsMissing name text (Superfluous word) = ⊥

-- no word is left for what `name` says, or the next word reads as no such value
abbrev pub ReadsNone : {X E : Type 0} → (List ℕ → Result X E → Type 0) → List ℕ → List ℕ → Fault → Type 0
ReadsNone reads name text Empty = ⊥
ReadsNone reads name text (UnknownRequest word advice) = ⊥
ReadsNone reads name text (Missing missing) = (missing.now ≡ name) × NoWord text
ReadsNone {E = E} reads name text (NotANumber field word) =
    (field.now ≡ name) × ((rest : List ℕ) × (e : E) × NextWord text word.now rest × reads word.now (Err e))
ReadsNone reads name text (Superfluous word) = ⊥

-- a word is left where the text was to end
abbrev pub IsSuperfluous : List ℕ → Fault → Type 0
IsSuperfluous text Empty = ⊥
IsSuperfluous text (UnknownRequest word advice) = ⊥
IsSuperfluous text (Missing missing) = ⊥
IsSuperfluous text (NotANumber field word) = ⊥
IsSuperfluous text (Superfluous word) = (rest : List ℕ) × NextWord text word.now rest

-- what is printed of a fault
abbrev pub fault_text : Fault → List ℕ
fault_text Empty = codes "  an empty line asks for nothing"
fault_text (UnknownRequest word advice) = codes "  '" ++ (word.now ++ (codes "' is no request" ++ advice.now))
fault_text (Missing name) = codes "  " ++ (name.now ++ codes " is missing")
fault_text (NotANumber name word) = codes "  '" ++ (word.now ++ (codes "' is no number for " ++ name.now))
fault_text (Superfluous word) = codes "  '" ++ (word.now ++ codes "' does not belong here")
