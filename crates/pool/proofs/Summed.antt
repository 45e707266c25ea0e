-- A pool's gas, a member more at a time. Assumes nothing.
use Rattle.std.proofs.Common.{◌≡◌, ℕ, ◌+◌, ◌<◌, ◌≤◌, List, [], ◌∷◌, ◌++◌, length, get_or, take, ℤ, ap, ◌∙◌, arith}
use Rattle.std.proofs.lemmas.List.{take_more}
use Rattle.std.proofs.lemmas.Int.{ints}
use Rattle.schedule.specs.declared.gas.Gas.{Gas}
use Rattle.agreement.specs.Book.{Member}
use Rattle.agreement.specs.Gases.{together, total}
use Rattle.agreement.specs.Sizes.{Sized}
use Rattle.pool.specs.Members.{nobody}

same_gas : (x y : Gas) → x.difference ≡ y.difference → x.base ≡ y.base → x ≡ y
same_gas x y p q = ap (λ (d : ℤ). record { difference = d; base = x.base }) p ∙ ap (λ (b : ℕ). record { difference = y.difference; base = b }) q

total_push : (of : Member → Gas) (ms : List Member) (m : Member) → total of (ms ++ m ∷ []) ≡ together (total of ms) (of m)
total_push of [] m = same_gas _ _ (omega (arith, ints)) (omega arith)
total_push of (x ∷ ms) m =
    let rest = total_push of ms m in
    ap (together (of x)) rest ∙ same_gas _ _ (omega (arith, ints)) (omega arith)

pub total_more : (of : Member → Gas) (ms : List Member) (i : ℕ) → i < length ms → total of (take (i + 1) ms) ≡ together (total of (take i ms)) (of (get_or ms i nobody))
total_more of ms i lt = ap (total of) (take_more ms i nobody lt) ∙ total_push of (take i ms) (get_or ms i nobody)

pub sized_more : (n m : ℕ) (x y : Gas) → Sized n x → Sized m y → Sized (n + m) (together x y)
sized_more n m x y p q = record { difference_most = omega (arith, ints, p.difference_most, q.difference_most); base_most = omega (arith, p.base_most, q.base_most) }

pub sized_within : (n m : ℕ) (x : Gas) → n ≤ m → Sized n x → Sized m x
sized_within n m x le p = record { difference_most = omega (arith, p.difference_most); base_most = omega (arith, p.base_most) }
