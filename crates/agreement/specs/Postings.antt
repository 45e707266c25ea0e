-- How a call changes the plain book: its members, the days of one of them, a notice, or the status. Assumes nothing.
use Rattle.std.specs.Prelude.{ℕ, ◌+◌, ◌-◌, Bool, true, false, cond, ◌||◌, List, [], ◌∷◌, ◌==◌, Option, slice_set}
use Rattle.agreement.specs.declared.status.Status.{Status}
use Rattle.agreement.specs.declared.day.Day.{Day}
use Rattle.agreement.specs.Book.{Book, Member}

-- whether a member has this account number
abbrev pub enrolled : ℕ → List Member → Bool
enrolled account [] = false
enrolled account (m ∷ ms) = m.account == account || enrolled account ms

-- the member with this account number changed, the others as they were
abbrev pub on_member : ℕ → (Member → Member) → List Member → List Member
on_member account change [] = []
on_member account change (m ∷ ms) = cond (m.account == account) (change m ∷ ms) (m ∷ on_member account change ms)

-- the days whose number is chosen changed, where the first of the list has the number n
abbrev pub from_day : ℕ → (ℕ → Bool) → (Day → Day) → List Day → List Day
from_day n chosen change [] = []
from_day n chosen change (d ∷ ds) = cond (chosen n) (change d) d ∷ from_day (n + 1) chosen change ds

-- a book with its members changed
abbrev pub with_members : (List Member → List Member) → Book → Book
with_members change book = record { days = book.days; members = change book.members; notices = book.notices; status = book.status }

-- a book with notice on a day
abbrev pub with_notice : ℕ → Book → Book
with_notice day book = record { days = book.days; members = book.members; notices = slice_set book.notices (day - 1) true; status = book.status }

-- a book with another status
abbrev pub with_status : Status → Book → Book
with_status new book = record { days = book.days; members = book.members; notices = book.notices; status = new }

-- a member with its chosen days changed; days count from 1
abbrev pub on_days : (ℕ → Bool) → (Day → Day) → Member → Member
on_days chosen change m = record { account = m.account; retention = m.retention; days = from_day 1 chosen change m.days }

-- a day with another nomination, another reading, another receipt
abbrev pub with_nomination : ℕ → Day → Day
with_nomination therms day = record { nominated = therms; reading = day.reading; received = day.received }

abbrev pub with_reading : Option ℕ → Day → Day
with_reading new day = record { nominated = day.nominated; reading = new; received = day.received }

abbrev pub with_receipt : ℕ → Day → Day
with_receipt therms day = record { nominated = day.nominated; reading = day.reading; received = therms }
