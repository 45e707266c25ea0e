-- What is printed of amounts that were passed on. Assumes nothing.
use Rattle.std.proofs.Common.{◌≡◌, List, ℕ, ℤ}

pub same_amount : (f : ℤ → List ℕ → List ℕ → List ℕ) (x y : ℤ) (t u n m : List ℕ) → x ≡ y → t ≡ u → n ≡ m → f x t n ≡ f y u m
same_amount f x y t u n m e1 e2 e3 = cc

pub same_charge : (f : ℤ → ℤ → ℤ → List ℕ) (a b g a' b' g' : ℤ) → a ≡ a' → b ≡ b' → g ≡ g' → f a b g ≡ f a' b' g'
same_charge f a b g a' b' g' e1 e2 e3 = cc
