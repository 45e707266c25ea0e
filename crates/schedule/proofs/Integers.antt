-- Laws of the integers, and that a line is additive. Assumes nothing.
use Rattle.std.proofs.Common.{◌≡◌, ℕ, ◌+◌, ◌*◌, ℤ, pos, ◌+ℤ◌, ◌*ℤ◌, ap, arith}
use borrow.Author.Differences.{up, down, sum_is_lem}
use Rattle.std.proofs.lemmas.Int.{ints}
use Rattle.schedule.specs.declared.line.Line.{Line}
use Rattle.schedule.specs.Lines.{amount}

-- a product distributes over a sum
pub mul_addℤ : (a x y : ℤ) → a *ℤ (x +ℤ y) ≡ (a *ℤ x) +ℤ (a *ℤ y)
mul_addℤ a x y =
    let u = ap (λ z. up a * z) (sum_is_lem x y) in
    let v = ap (λ z. down a * z) (sum_is_lem x y) in
    omega (arith, ints, u, v)

-- a line gives at two points added what it gives at each, added
pub amount_add : (d e : ℤ) (m n : ℕ) (l : Line) → amount (d +ℤ e) (m + n) l ≡ amount d m l +ℤ amount e n l
amount_add d e m n l =
    four (l.a *ℤ (d +ℤ e)) (l.b *ℤ pos (m + n)) (l.a *ℤ d) (l.a *ℤ e) (l.b *ℤ pos m) (l.b *ℤ pos n) (mul_addℤ l.a d e) (mul_addℤ l.b (pos m) (pos n))
  where
    four : (x y a b c f : ℤ) → x ≡ a +ℤ b → y ≡ c +ℤ f → x +ℤ y ≡ (a +ℤ c) +ℤ (b +ℤ f)
    four x y a b c f p q = omega (arith, ints)
