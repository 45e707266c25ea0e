-- The calls of a month: when each is refused, and what it makes of the plain book. Assumes nothing.
use Rattle.std.specs.Prelude.{not, List, [], ◌∷◌, ◌++◌, length, Some, Option, Result, nat_eq, nat_le, nat_lt}
use Rattle.rules.specs.Checks.{◌when◌, first, unless, changed_unless}
use Rattle.agreement.specs.declared.calls.Call.{Call}
use Rattle.agreement.specs.declared.calls.Posting.{Posting}
use Rattle.agreement.specs.declared.calls.Call.TheVariants.{Enrol, Nominate, Read, Receive, Notify, Close}
use Rattle.agreement.specs.declared.refusals.Refusal.{Refusal}
use Rattle.agreement.specs.declared.refusals.Refusal.TheVariants.{MonthClosed, PoolFull, AccountZero, AlreadyEnrolled, RetentionTooHigh, NotEnrolled, NoSuchDay, TooManyTherms, NoMember}
use Rattle.agreement.specs.declared.status.Status.TheVariants.{Closed}
use Rattle.agreement.specs.Limits.{most_members, most_retention, most_therms}
use Rattle.agreement.specs.Months.{has_day}
use Rattle.agreement.specs.Missing.{missing_read}
use Rattle.agreement.specs.Book.{Book, is_closed, new_member}
use Rattle.agreement.specs.Postings.{enrolled, on_member, on_days, with_members, with_notice, with_nomination, with_reading, with_receipt, with_status}

-- the checks of a posting of gas to an account and a day: nominate, read and receive have the same
abbrev pub posting_checks : Posting → Book → List (Option Refusal)
posting_checks p book =
    MonthClosed when is_closed book.status
    ∷ NotEnrolled when not (enrolled p.account book.members)
    ∷ NoSuchDay when not (has_day p.day book.days)
    ∷ TooManyTherms when nat_lt most_therms p.therms
    ∷ []

-- the checks of each call, in their order
abbrev pub checks : Call → Book → List (Option Refusal)
checks (Enrol account retention) book =
    MonthClosed when is_closed book.status
    ∷ PoolFull when nat_le most_members (length book.members)
    ∷ AccountZero when nat_eq account 0
    ∷ AlreadyEnrolled when enrolled account book.members
    ∷ RetentionTooHigh when nat_lt most_retention retention
    ∷ []
checks (Nominate p) book = posting_checks p book
checks (Read p) book = posting_checks p book
checks (Receive p) book = posting_checks p book
checks (Notify day) book =
    MonthClosed when is_closed book.status
    ∷ NoSuchDay when not (has_day day book.days)
    ∷ []
checks Close book =
    MonthClosed when is_closed book.status
    ∷ NoMember when nat_eq (length book.members) 0
    ∷ missing_read book.members
    ∷ []

-- why a call is refused, if it is
abbrev pub refusal : Call → Book → Option Refusal
refusal call book = first (checks call book)

-- what an accepted call makes of the book
abbrev pub accepted : Call → Book → Book
accepted (Enrol account retention) book = with_members (λ members. members ++ new_member account retention book.days ∷ []) book
accepted (Nominate p) book = with_members (on_member p.account (on_days (λ n. nat_le p.day n) (with_nomination p.therms))) book
accepted (Read p) book = with_members (on_member p.account (on_days (λ n. nat_eq p.day n) (with_reading (Some p.therms)))) book
accepted (Receive p) book = with_members (on_member p.account (on_days (λ n. nat_eq p.day n) (with_receipt p.therms))) book
accepted (Notify day) book = with_notice day book
accepted Close book = with_status Closed book

-- what a call answers
abbrev pub answer : Call → Book → Result (Unit {0}) Refusal
answer call book = unless (refusal call book) tt

-- the book after a call: a refused call changes nothing
abbrev pub after : Call → Book → Book
after call book = changed_unless (refusal call book) book (accepted call book)
