-- Figures within their limits, and gas of at most so much. Assumes nothing.
use Rattle.std.specs.Prelude.{ℕ, ◌≤◌, length, unsigned_abs}
use Rattle.std.specs.List.{AllByRecursion}
use Rattle.rules.specs.Days.{most_days}
use Rattle.schedule.specs.declared.gas.Gas.{Gas}
use Rattle.agreement.specs.declared.day.Day.{Day}
use Rattle.agreement.specs.Book.{Book, Member, therms_of}
use Rattle.agreement.specs.Limits.{most_members, most_therms}

-- no figure of a day is above the most that is posted
pub record SmallDay (d : Day) : Type 0 where
  pub nominated_most : d.nominated ≤ most_therms
  pub read_most : therms_of d.reading ≤ most_therms
  pub received_most : d.received ≤ most_therms

-- a member has no more days than the longest month, each small
pub record SmallMember (m : Member) : Type 0 where
  pub few_days : length m.days ≤ most_days
  pub days_small : AllByRecursion SmallDay m.days

-- a book has no more members than a full pool, each small
pub record SmallBook (b : Book) : Type 0 where
  pub few_members : length b.members ≤ most_members
  pub members_small : AllByRecursion SmallMember b.members

-- the size of the difference and the base are at most n
pub record Sized (n : ℕ) (g : Gas) : Type 0 where
  pub difference_most : unsigned_abs g.difference ≤ n
  pub base_most : g.base ≤ n
