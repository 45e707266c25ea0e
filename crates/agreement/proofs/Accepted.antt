-- A call that no check refuses. Assumes nothing.
use Rattle.std.proofs.Common.{◌≡◌, None, Option, ap}
use Rattle.agreement.specs.declared.calls.Call.{Call}
use Rattle.agreement.specs.declared.refusals.Refusal.{Refusal}
use Rattle.agreement.specs.Book.{Book}
use Rattle.rules.specs.Checks.{changed_unless}
use Rattle.agreement.specs.Calls.{refusal, accepted, after}

module _ (call : Call) (book : Book) (free : refusal call book ≡ None) where
  pub after_accepted : after call book ≡ accepted call book
  after_accepted = ap (λ (why : Option Refusal). changed_unless why book (accepted call book)) free
