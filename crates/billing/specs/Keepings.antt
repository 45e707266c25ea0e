-- A keeping: the rising list of records that it keeps, and the memory lent to it. Each definition over lists takes
-- the number of a record as a function f. The type of a keeping names g, the ghost members of its records' `Numbered`.
-- Assumes nothing.
use Rattle.std.specs.Prelude.{◌≡◌, ℕ, cond, List, [], ◌∷◌, ◌++◌, length, take, drop, is_ok, Ok, Err, Option, Result, ◌==◌, nat_le}
use Rattle.billing.specs.declared.keeping.Keeping.{Keeping}
use Rattle.billing.specs.declared.keeping.Numbered.{Ghosts}
use Rattle.billing.specs.declared.refusals.Refusal.{Refusal}
use Rattle.billing.specs.declared.refusals.Refusal.TheVariants.{KeepingFull, NumberInUse, NoSuchNumber}
use Rattle.rules.specs.Checks.{◌when◌, first, changed_unless, refusal_of}

-- all the memory lent
abbrev pub lent : {R : Type 0} {g : Ghosts R} → Keeping R g → List R
lent k = k.slots.now

-- the records kept, at the front of it
abbrev pub kept : {R : Type 0} {g : Ghosts R} → Keeping R g → List R
kept k = take k.len (lent k)

-- how many records there is room for
abbrev pub room : {R : Type 0} {g : Ghosts R} → Keeping R g → ℕ
room k = length (lent k)

-- memory with these records at its front; the places beyond them hold what they held
abbrev pub over : {R : Type 0} → List R → List R → List R
over xs memory = xs ++ drop (length xs) memory

module _ {R : Type 0} (f : R → ℕ) where
  -- the record with the number n
  abbrev pub found : ℕ → List R → Result R Refusal
  found n [] = Err NoSuchNumber
  found n (x ∷ xs) = cond (f x == n) (Ok x) (found n xs)

  -- the list with a newcomer before the first record whose number is not below its own
  abbrev pub in_order : R → List R → List R
  in_order x [] = x ∷ []
  in_order x (y ∷ ys) = cond (nat_le (f x) (f y)) (x ∷ y ∷ ys) (y ∷ in_order x ys)

  -- the list with a record in the place of the one that has its number
  abbrev pub replaced : R → List R → List R
  replaced x [] = []
  replaced x (y ∷ ys) = cond (f y == f x) (x ∷ ys) (y ∷ replaced x ys)

  -- why a newcomer is not added: its number is in use; there is no room
  abbrev pub add_refusal : ℕ → R → List R → Option Refusal
  add_refusal places x xs = first (NumberInUse when is_ok (found (f x) xs) ∷ KeepingFull when nat_le places (length xs) ∷ [])

  -- the records after an addition
  abbrev pub after_adding : ℕ → R → List R → List R
  after_adding places x xs = changed_unless (add_refusal places x xs) xs (in_order x xs)

  -- why a record is not changed: none has its number
  abbrev pub change_refusal : R → List R → Option Refusal
  change_refusal x xs = refusal_of (found (f x) xs)

  -- the records after a change
  abbrev pub after_change : R → List R → List R
  after_change x xs = changed_unless (change_refusal x xs) xs (replaced x xs)

-- A call left a keeping with these records.
pub record Leaves {R : Type 0} {g : Ghosts R} (before after : Keeping R g) (records : List R) : Type 0 where
  -- they are kept
  pub keeps : kept after ≡ records
  -- the places beyond them hold what they held
  pub memory : lent after ≡ over records (lent before)
  -- the memory is the one that was lent
  pub lender : after.slots.ghost_name ≡ before.slots.ghost_name
