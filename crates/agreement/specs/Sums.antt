-- Sums of whole numbers over a list, and the members of a set. Assumes nothing.
use Rattle.std.specs.Prelude.{ℕ, suc, Bool, cond, List, [], ◌∷◌, ℤ, pos, ◌+ℤ◌}

-- the sum of what f gives over the list
abbrev pub sum_of : {X : Type 0} → (X → ℤ) → List X → ℤ
sum_of f [] = pos 0
sum_of f (x ∷ xs) = f x +ℤ sum_of f xs

-- those of a list whose places, from 0, are in the set
abbrev pub those : {X : Type 0} → (ℕ → Bool) → List X → List X
those set [] = []
those set (x ∷ xs) = let more = those (λ k. set (suc k)) xs in cond (set 0) (x ∷ more) more
