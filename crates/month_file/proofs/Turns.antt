-- Reading the records that are left, one after another. Assumes nothing.
use Rattle.std.proofs.Common.{◌≡◌, ℕ, List, length, suc, ◌+◌, ◌-◌, Some, None, Ok, Err, Option, Result, sym, refl, ap, ◌∙◌, unwrap_or, arith}
use Rattle.month_format.specs.declared.errors.RecordError.{RecordError}
use Rattle.month_format.specs.declared.errors.RecordError.TheVariants.{MisplacedSetUp}
use Rattle.month_format.specs.declared.place.Place.{Place}
use Rattle.month_format.specs.declared.record.Record.{Record}
use Rattle.month_format.specs.Files.{versioned}
use Rattle.month_format.specs.Views.{said_by, seen}
use Rattle.month_format.proofs.Encodes.{err_ok}
use Rattle.month_meaning.specs.declared.errors.FileError.{FileError}
use Rattle.month_meaning.specs.declared.fault.Fault.{Fault}
use Rattle.month_meaning.specs.Months.{Month}
use Rattle.month_meaning.specs.Reading.{place_at, went_on, read_on, begun, reading}
use Rattle.month_meaning.specs.Layers.{placed, month_or, done, posted_read}
use Rattle.month_meaning.proofs.Steps.{read_turn, read_end, went_done, went_refused}
use Rattle.month_file.specs.declared.records.Records.{Records}
use Rattle.month_file.specs.Given.{Gives}
use Rattle.month_file.specs.Left.{read_left, read_after}

abbrev pub Next : Type 0
Next = Place × Result Record RecordError

-- the step from some records to those after the next
abbrev pub Step : Records → Option Next → Records → Type 0
Step old next new = Gives old.before old.total old.left.now next new.before new.total new.left.now

-- the next record is read, and then the others are
pub turn : (made : Option Month) (old new : Records) (x : Next) → Step old (Some x) new → read_left made old ≡ went_on made x.0 (posted_read made (seen said_by x.1)) (λ t. read_left t new)
turn made old new x (some, at, is, before, total) =
    let k = old.total - (old.before + 1) in
    let turns : old.total - old.before ≡ suc k = omega (arith, old.few) in
    let e = read_turn k (old.total - old.before) made old.before old.total old.left.now (seen said_by x.1) new.left.now turns some is in
    e ∙ (λ i. went_on made (sym at i) (posted_read made (seen said_by x.1)) (λ t. read_on (sym total i - sym before i) t (sym before i) (sym total i) new.left.now))

-- a record that is posted, and one that is not
pub turn_done : (m : Month) (old new : Records) (x : Next) → Step old (Some x) new → Ok tt ≡ done (posted_read (Some m) (seen said_by x.1)) → read_left (Some m) old ≡ read_left (Some (month_or m (posted_read (Some m) (seen said_by x.1)))) new
turn_done m old new x s q = turn (Some m) old new x s ∙ went_done m x.0 (λ t. read_left t new) (posted_read (Some m) (seen said_by x.1)) q

pub turn_refused : (m : Month) (old new : Records) (x : Next) (r : Result (Unit {0}) FileError) (f : Fault) → Step old (Some x) new → r ≡ done (posted_read (Some m) (seen said_by x.1)) → Err f ≡ placed r x.0 → read_left (Some m) old ≡ (Some (month_or m (posted_read (Some m) (seen said_by x.1))), Err f)
turn_refused m old new x (Ok u) f s q p = absurd (err_ok f u p)
turn_refused m old new x (Err y) f s q p =
    turn (Some m) old new x s ∙ went_refused m x.0 (λ t. read_left t new) (posted_read (Some m) (seen said_by x.1)) y q ∙ ap (λ e. (Some (month_or m (posted_read (Some m) (seen said_by x.1))), e)) (sym p)

-- no record is left
pub turn_end : (m : Month) (old new : Records) → Step old None new → read_left (Some m) old ≡ (Some m, Ok tt)
turn_end m old new s = read_end (old.total - old.before) (Some m) old.before old.total old.left.now s

set_up_went : (p : Place) (r : Result Month FileError) (new : Records) → went_on None p r (λ t. read_left t new) ≡ read_after (placed r p) new
set_up_went p (Ok m) new = refl
set_up_went p (Err y) new = refl

-- the first record is read, or the end of the file stands for a set-up that is missing
pub set_up_turn : (old new : Records) (next : Option Next) → Step old next new → (x : Next) → x ≡ unwrap_or next (place_at old.before old.total old.left.now, Err MisplacedSetUp) → read_left None old ≡ read_after (placed (posted_read None (seen said_by x.1)) x.0) new
set_up_turn old new None s x e =
    read_end (old.total - old.before) None old.before old.total old.left.now s ∙ ap (λ n. read_after (placed (posted_read None (seen said_by n.1)) n.0) new) (sym e)
set_up_turn old new (Some y) s x e =
    turn None old new y s ∙ set_up_went y.0 (posted_read None (seen said_by y.1)) new ∙ ap (λ n. read_after (placed (posted_read None (seen said_by n.1)) n.0) new) (sym e)

-- all records of a file
pub read_all : (file : List ℕ) (all : Records) → versioned file ≡ Ok all.left.now → all.before ≡ 0 → all.total ≡ length file → reading file ≡ read_left None all
read_all file all v b t =
    let turns : length file ≡ length file - 0 = omega arith in
    ap (λ r. begun r (λ left. read_on (length file) None 0 (length file) left)) v ∙ ap (λ k. read_on k None 0 (length file) all.left.now) turns ∙ (λ i. read_on (sym t i - sym b i) None (sym b i) (sym t i) all.left.now)
