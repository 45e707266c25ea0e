-- What a table holds, and the plain book that it stands for. Assumes nothing.
use Rattle.std.specs.Prelude.{◌≡◌, ℕ, ◌*◌, ◌≤◌, List, [], ◌∷◌, length, take, drop, slice_index_or}
use Rattle.agreement.specs.declared.day.Day.{Day}
use Rattle.agreement.specs.Book.{Book, Member, blank}
use Rattle.rules.specs.Days.{most_days}
use Rattle.agreement.specs.Limits.{most_members, most_retention}
use Rattle.agreement.specs.Sizes.{SmallDay}
use Rattle.pool.specs.declared.table.Enrolled.{Enrolled}
use Rattle.pool.specs.declared.table.Table.TheInside.{Inside}

-- what stands past the last enrolment
abbrev pub no_one : Enrolled
no_one = record { account = 0; retention = 0 }

-- the members of these enrolments, each with so many days, which begin a row of cells
abbrev pub members_of : ℕ → List Enrolled → List Day → List Member
members_of days [] cells = []
members_of days (one ∷ rest) cells = record { account = one.account; retention = one.retention; days = take days cells } ∷ members_of days rest (drop most_days cells)

-- the plain book
abbrev pub book_of : Inside → Book
book_of t = record { days = t.days.count; members = members_of t.days.count t.members.items t.cells; notices = take t.days.count t.notices; status = t.status }

-- what is true of every table
pub record Sound (t : Inside) : Type 0 where
  -- A place for each member, a cell for each of its days, a mark for each day.
  pub few : length t.members.items ≤ most_members
  pub cells : length t.cells ≡ most_members * most_days
  pub marks : length t.notices ≡ most_days
  -- No figure is above its limit.
  pub retained : (i : ℕ) → (slice_index_or t.members.items i no_one).retention ≤ most_retention
  pub small : (k : ℕ) → SmallDay (slice_index_or t.cells k blank)
  -- The cells past the last member's are blank.
  pub rest : (k : ℕ) → length t.members.items * most_days ≤ k → slice_index_or t.cells k blank ≡ blank
