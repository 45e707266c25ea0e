-- The plain book: what a pool's month holds, as lists. Assumes nothing.
use Rattle.std.specs.Prelude.{ℕ, Bool, true, false, List, [], Some, None, Option, replicate}
use Rattle.agreement.specs.declared.day.Day.{Day}
use Rattle.agreement.specs.declared.status.Status.{Status}
use Rattle.agreement.specs.declared.status.Status.TheVariants.{Open, Closed}

-- a member: its account number, its retention in tenths of a percent, and its days in order
pub record Member : Type 0 where
  pub account : ℕ
  pub retention : ℕ
  pub days : List Day

-- a book: the number of days, the members in enrolment order, day by day whether notice was given, and open or closed
pub record Book : Type 0 where
  pub days : ℕ
  pub members : List Member
  pub notices : List Bool
  pub status : Status

-- a day on which nothing is posted yet
abbrev pub blank : Day
blank = record { nominated = 0; reading = None; received = 0 }

-- a new member of a book of so many days
abbrev pub new_member : ℕ → ℕ → ℕ → Member
new_member account retention days = record { account = account; retention = retention; days = replicate days blank }

-- a book as it is set up: open, without members or notices
abbrev pub opened : ℕ → Book
opened days = record { days = days; members = []; notices = replicate days false; status = Open }

-- whether a book takes no more calls
abbrev pub is_closed : Status → Bool
is_closed Open = false
is_closed Closed = true

-- whether a day has no read
abbrev pub is_unread : Option ℕ → Bool
is_unread None = true
is_unread (Some therms) = false

-- the gas that a reading counts for
abbrev pub therms_of : Option ℕ → ℕ
therms_of None = 0
therms_of (Some therms) = therms
