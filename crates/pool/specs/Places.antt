-- When a call is accepted, and the cell that a posting is written to. Assumes nothing.
use Rattle.std.specs.Prelude.{◌≡◌, ℕ, ◌+◌, ◌-◌, ◌*◌, ◌<◌, ◌≤◌, length, Some, None, Option, ◌==◌, position}
use Rattle.rules.specs.Checks.{first}
use Rattle.rules.specs.Days.{most_days}
use Rattle.agreement.specs.declared.calls.Call.TheVariants.{Enrol}
use Rattle.agreement.specs.declared.calls.Posting.{Posting}
use Rattle.agreement.specs.Book.{Book, Member}
use Rattle.agreement.specs.Calls.{posting_checks, refusal}
use Rattle.agreement.specs.Limits.{most_members, most_retention, most_therms}

-- the place of the first member with an account
abbrev pub place_of : ℕ → Book → Option ℕ
place_of account book = position (λ (m : Member). m.account == account) book.members

-- the cell of a member, at a place from 0, and of one of its days, from 1
abbrev pub cell_at : ℕ → ℕ → ℕ
cell_at place day = place * most_days + (day - 1)

-- an enrolment is accepted
pub record Enrols (book : Book) (account retention : ℕ) : Type 0 where
  pub free : refusal (Enrol account retention) book ≡ None
  pub room : length book.members < most_members
  pub small : retention ≤ most_retention

-- a posting is accepted, and this is the cell of its member and day
pub record Posts (book : Book) (posting : Posting) (cell : ℕ) : Type 0 where
  pub free : first (posting_checks posting book) ≡ None
  pub place : ℕ
  pub here : place_of posting.account book ≡ Some place
  pub at : cell ≡ cell_at place posting.day
  pub from : 1 ≤ posting.day
  pub upto : posting.day ≤ book.days
  pub small : posting.therms ≤ most_therms
