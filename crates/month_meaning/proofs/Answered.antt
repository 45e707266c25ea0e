-- A call that the book answers, and the month after it. Assumes nothing.
use Rattle.std.proofs.Common.{◌≡◌, Some, None, Err, Option, sym, refl, ap, ◌∙◌, arith}
use Rattle.agreement.specs.declared.calls.Call.{Call}
use Rattle.agreement.specs.declared.refusals.Refusal.{Refusal}
use Rattle.agreement.specs.Book.{Book}
use Rattle.rules.specs.Checks.{unless, changed_unless}
use Rattle.agreement.specs.Calls.{accepted, refusal, after, answer}
use Rattle.month_format.specs.Entries.{Entry, set_up, call}
use Rattle.month_format.specs.Views.{call_of}
use Rattle.month_meaning.specs.declared.errors.FileError.TheVariants.{InBook}
use Rattle.month_meaning.specs.Months.{Month, with_book}
use Rattle.month_meaning.specs.Reading.{posted, answered}
use Rattle.month_meaning.specs.Layers.{month_or}

-- the entry of a call
entry_of : (e : Entry) (c : Call) → call_of e ≡ Some c → e ≡ call c
entry_of (set_up d n a l) c q = absurd (grind arith)
entry_of (call d) c q = grind arith

unchanged : (why : Option Refusal) (r : Refusal) (b changed : Book) → Err r ≡ unless {X = Unit {0}} why tt → changed_unless why b changed ≡ b
unchanged None r b changed q = absurd (grind arith)
unchanged (Some w) r b changed q = refl

-- a book that refuses is as it was
pub after_refused : (c : Call) (b : Book) (r : Refusal) → Err r ≡ answer c b → after c b ≡ b
after_refused c b r q = unchanged (refusal c b) r b (accepted c b) q

module _ (m : Month) (e : Entry) (c : Call) (is : call_of e ≡ Some c) where
  posted_answered : posted (Some m) e ≡ answered (answer c m.book) (with_book (after c m.book) m)
  posted_answered = ap (posted (Some m)) (entry_of e c is)

  -- the book refuses
  module _ (r : Refusal) (q : Err r ≡ answer c m.book) where
    posted_refused : posted (Some m) e ≡ Err (InBook r)
    posted_refused = posted_answered ∙ ap (λ x. answered x (with_book (after c m.book) m)) (sym q)

    pub month_refused : m ≡ month_or m (posted (Some m) e)
    month_refused = ap (month_or m) (sym posted_refused)
