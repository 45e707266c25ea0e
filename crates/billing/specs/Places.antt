-- Where a number stands in a list of records, or would stand. Assumes nothing.
use Rattle.std.specs.Prelude.{◌≡◌, ℕ, ◌<◌, ◌≤◌, List, length, slice_index_or}

-- The record with the number n stands at the place i.
pub record IsAt {R : Type 0} (f : R → ℕ) (n : ℕ) (xs : List R) (i : ℕ) : Type 0 where
  -- there is such a place
  pub in_range : i < length xs
  -- the record there has the number
  pub has_number : (d : R) → f (slice_index_or xs i d) ≡ n

-- A record with the number n would stand at the place i.
pub record IsGapFor {R : Type 0} (f : R → ℕ) (n : ℕ) (xs : List R) (i : ℕ) : Type 0 where
  -- at the end, or at the place of a record
  pub in_range : i ≤ length xs
  -- the numbers before it are below n
  pub below : (j : ℕ) (d : R) → j < i → f (slice_index_or xs j d) < n
  -- those from it on are above n
  pub above : (j : ℕ) (d : R) → i ≤ j → j < length xs → n < f (slice_index_or xs j d)

-- From the place i on, the numbers are above n.
abbrev pub AllAbove : {R : Type 0} → (R → ℕ) → ℕ → ℕ → List R → Type 0
AllAbove {R} f n i xs = (j : ℕ) (d : R) → i ≤ j → j < length xs → n < f (slice_index_or xs j d)
