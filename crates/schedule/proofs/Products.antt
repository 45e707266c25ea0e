-- The size of a product. Assumes nothing.
use Rattle.std.proofs.Common.{◌≡◌, ℕ, zero, suc, ◌*◌, ◌^◌, ◌<◌, ◌≤◌, ℤ, pos, ◌+ℤ◌, ◌*ℤ◌, neg_ℤ, nat_abs, sym, subst, refl, mul-le-mul, arith, w64, SFits, to_z, of_z}
use mir.Syntax.{w128}
use Rattle.std.proofs.lemmas.Int.{ints, unsigned_abs-mul}

pub nat_abs_neg : (n : ℕ) → nat_abs (neg_ℤ (pos n)) ≡ n
nat_abs_neg zero = refl
nat_abs_neg (suc n) = refl

-- the size of a product is at most the product of the sizes
pub nat_abs_mul_le : (x y : ℤ) (p q : ℕ) → nat_abs x ≤ p → nat_abs y ≤ q → nat_abs (x *ℤ y) ≤ p * q
nat_abs_mul_le x y p q h k = subst (λ n. n ≤ p * q) (sym (unsigned_abs-mul x y)) (mul-le-mul h k)

pub widened64 : (z : ℤ) → SFits w64 z → to_z w128 (of_z w128 (to_z w64 (of_z w64 z))) ≡ z
widened64 z f = omega (arith, ints)

pub widened : (n : ℕ) → n < 2 ^ 64 → to_z w128 n ≡ pos n
widened n h = omega (arith, ints)

-- products of equal factors
pub same_product : (x y u v : ℤ) → u ≡ x → v ≡ y → u *ℤ v ≡ x *ℤ y
same_product x y u v p q = cc

-- a sum of two small numbers is what the machine adds
pub summed : (r s x y : ℤ) → nat_abs r ≤ 2 ^ 95 → nat_abs s ≤ 2 ^ 95 → r ≡ x → s ≡ y → to_z w128 (of_z w128 (to_z w128 (of_z w128 r) +ℤ to_z w128 (of_z w128 s))) ≡ x +ℤ y
summed r s x y h k p q = omega (arith, ints)
