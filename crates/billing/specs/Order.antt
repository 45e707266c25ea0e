-- The order of a keeping. Assumes nothing.
use Rattle.std.specs.Prelude.{ℕ, ◌<◌, List, [], ◌∷◌}
use Rattle.std.specs.Coded.{×_prop, Unit-prop, le_prop}

module _ {R : Type 0} (f : R → ℕ) where
  -- n is below the number of the first record, if there is one
  abbrev pub BelowFirst : ℕ → List R → Type 0
  BelowFirst n [] = Unit {0}
  BelowFirst n (x ∷ xs) = n < f x

  -- the numbers rise
  abbrev pub Rising : List R → Type 0
  Rising [] = Unit {0}
  Rising (x ∷ xs) = BelowFirst (f x) xs × Rising xs

  BelowFirst_prop : (n : ℕ) (xs : List R) → IsProp (BelowFirst n xs)
  BelowFirst_prop n [] = Unit-prop
  BelowFirst_prop n (x ∷ xs) = le_prop

  -- that they rise is a fact, which has one proof
  pub Rising_prop : (xs : List R) → IsProp (Rising xs)
  Rising_prop [] = Unit-prop
  Rising_prop (x ∷ xs) = ×_prop (BelowFirst_prop (f x) xs) (Rising_prop xs)
