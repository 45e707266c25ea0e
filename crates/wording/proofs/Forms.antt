-- The form of a line: what its words have to be, one after the other. A text is refuted where a word is missing, does not
-- fit or is one too many. Assumes nothing.
use Rattle.std.proofs.Common.{◌≡◌, ℕ, List, [], ◌∷◌, ℤ, Err, Result, subst}
use mir.Syntax.{Width}
use Rattle.std.specs.declared.num.ParseIntError.{ParseIntError}
use Rattle.std.specs.Str.Parse.{ExplainsUnsignedError, ExplainsSignedError, ParsesUnsigned, ParsesSigned, HasUnsignedDigitsIfOk, HasSignedDigitsIfOk}
use Rattle.wording.specs.declared.words.Fault.{Fault}
use Rattle.wording.specs.declared.words.Fault.TheVariants.{Empty, UnknownRequest, Missing, NotANumber, Superfluous}
use Rattle.wording.specs.Words.{NoWord, NextWord, Words, Says, SaysSigned}
use Rattle.wording.specs.Faults.{ReadsNone, IsSuperfluous}
use Rattle.wording.proofs.Peeled.{peeled, none_left}

-- what a word has to be: a number of so many bits, one that may be negative, or this very word
pub data Field : Type 0 where
  number : ℕ → Field
  signed : Width → Field
  keyword : List ℕ → Field

-- a word is what it has to be
abbrev pub Fits : Field → List ℕ → Type 0
Fits (number bits) word = (n : ℕ) × Says bits word n
Fits (signed width) word = (z : ℤ) × SaysSigned width word z
Fits (keyword key) word = word ≡ key

-- the end; a field and what follows; the end, or a field and what follows
pub data Form : Type 0 where
  stop : Form
  field : Field → Form → Form
  maybe : Field → Form → Form

-- words fit a form, one by one
abbrev pub Meets : Form → List (List ℕ) → Type 0
Meets stop [] = Unit {0}
Meets stop (word ∷ words) = ⊥
Meets (field f form) [] = ⊥
Meets (field f form) (word ∷ words) = Fits f word × Meets form words
Meets (maybe f form) [] = Unit {0}
Meets (maybe f form) (word ∷ words) = Fits f word × Meets form words

-- the words of a text do not fit a form
pub record Refutes (text : List ℕ) (form : Form) : Type 0 where
  pub never : (words : List (List ℕ)) → Words text words → Meets form words → ⊥

-- no word is left
pub absent : {text : List ℕ} {f : Field} {form : Form} → NoWord text → Refutes text (field f form)
absent {text = text} {f = f} {form = form} n =
    record { never = λ words h m. subst (Meets (field f form)) (none_left text words n h) m }

module _ {text word rest : List ℕ} (w : NextWord text word rest) where
  -- a word too many
  pub surplus : Refutes text stop
  surplus = record { never = λ words h m. subst (Meets stop) (peeled text word rest words w h).1 m }

  -- the next word does not fit
  pub unfit : {f : Field} {form : Form} → (Fits f word → ⊥) → Refutes text (field f form)
  unfit {f = f} {form = form} k =
      record { never = λ words h m. k (subst (Meets (field f form)) (peeled text word rest words w h).1 m).0 }

  pub unfit_maybe : {f : Field} {form : Form} → (Fits f word → ⊥) → Refutes text (maybe f form)
  unfit_maybe {f = f} {form = form} k =
      record { never = λ words h m. k (subst (Meets (maybe f form)) (peeled text word rest words w h).1 m).0 }

  -- the next word is passed, and the rest is refuted
  pub passed : {f : Field} {form : Form} → Refutes rest form → Refutes text (field f form)
  passed {f = f} {form = form} k =
      record {
        never = λ words h m.
            let p = peeled text word rest words w h in
            k.never p.0 p.2 (subst (Meets (field f form)) p.1 m).1;
      }

  pub passed_maybe : {f : Field} {form : Form} → Refutes rest form → Refutes text (maybe f form)
  passed_maybe {f = f} {form = form} k =
      record {
        never = λ words h m.
            let p = peeled text word rest words w h in
            k.never p.0 p.2 (subst (Meets (maybe f form)) p.1 m).1;
      }

-- a word is left where the line was to end
pub not_ended : {text : List ℕ} (fault : Fault) → IsSuperfluous text fault → Refutes text stop
not_ended Empty h = absurd h
not_ended (UnknownRequest word advice) h = absurd h
not_ended (Missing name) h = absurd h
not_ended (NotANumber name word) h = absurd h
not_ended (Superfluous word) h = surplus h.1

-- no word is left, or the next does not read as the field
not_read : {X E : Type 0} (reads : List ℕ → Result X E → Type 0) (f : Field) (form : Form) → ((word : List ℕ) (e : E) → reads word (Err e) → Fits f word → ⊥) → (name text : List ℕ) (fault : Fault) → ReadsNone reads name text fault → Refutes text (field f form)
not_read reads f form k name text Empty h = absurd h
not_read reads f form k name text (UnknownRequest word advice) h = absurd h
not_read reads f form k name text (Missing missing) h = absent h.1
not_read reads f form k name text (NotANumber missing word) h =
    unfit h.1.2 (k word.now h.1.1 h.1.3)
not_read reads f form k name text (Superfluous word) h = absurd h

-- how a number is read
abbrev pub reads_unsigned : ℕ → List ℕ → Result ℕ ParseIntError → Type 0
reads_unsigned bits bs r = ParsesUnsigned bits 10 bs r × ExplainsUnsignedError 10 bs r × HasUnsignedDigitsIfOk bs r

abbrev pub reads_signed : Width → List ℕ → Result ℤ ParseIntError → Type 0
reads_signed width bs r = ParsesSigned width 10 bs r × ExplainsSignedError 10 bs r × HasSignedDigitsIfOk bs r

pub no_number : {form : Form} (bits : ℕ) (name text : List ℕ) (fault : Fault) → ReadsNone (reads_unsigned bits) name text fault → Refutes text (field (number bits) form)
no_number {form = form} bits =
    not_read (reads_unsigned bits) (number bits) form (λ word e r m. r.0 m.1.0)

pub no_signed : {form : Form} (width : Width) (name text : List ℕ) (fault : Fault) → ReadsNone (reads_signed width) name text fault → Refutes text (field (signed width) form)
no_signed {form = form} width =
    not_read (reads_signed width) (signed width) form (λ word e r m. r.0 m.1.0)
