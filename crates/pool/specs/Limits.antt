-- A book within the limits of its figures. Assumes nothing.
use Rattle.std.specs.Prelude.{◌≡◌, ℕ, ◌<◌, ◌≤◌, length, slice_index_or}
use Rattle.rules.specs.Days.{least_days, most_days}
use Rattle.agreement.specs.Book.{Book, blank}
use Rattle.agreement.specs.Limits.{most_members, most_retention}
use Rattle.agreement.specs.Sizes.{SmallDay}
use Rattle.pool.specs.Members.{nobody}

-- no more members than a full pool has, as many days as a month can have for each, and no figure above its limit
pub record WithinLimits (book : Book) : Type 0 where
  pub few_members : length book.members ≤ most_members
  pub least : least_days ≤ book.days
  pub most : book.days ≤ most_days
  -- a day of each member, and a mark, for each day of the month
  pub whole : (i : ℕ) → i < length book.members → length (slice_index_or book.members i nobody).days ≡ book.days
  pub marked : length book.notices ≡ book.days
  pub few_days : (i : ℕ) → length (slice_index_or book.members i nobody).days ≤ most_days
  pub retained : (i : ℕ) → (slice_index_or book.members i nobody).retention ≤ most_retention
  pub small_days : (i k : ℕ) → SmallDay (slice_index_or (slice_index_or book.members i nobody).days k blank)
