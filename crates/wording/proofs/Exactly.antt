-- An amount in dollars that is exactly so many units is printed as they are. Assumes nothing.
use Rattle.std.proofs.Common.{◌≡◌, ℕ, ◌+◌, ◌*◌, ◌/◌, ◌%◌, ◌<◌, ℤ, nat_abs, subst, arith}
use Rattle.wording.specs.declared.dollars.Dollars.{Dollars}
use Rattle.wording.specs.Dollars.{dollar_text}
use Rattle.wording.specs.Amounts.{IsExactly, amount_text}

-- whole dollars and the fraction of one
whole_of : (w r n : ℕ) → w * 100000000000 + r ≡ n → r < 100000000000 → w ≡ n / 100000000000
whole_of w r n e h = omega arith

rest_of : (w r n : ℕ) → w * 100000000000 + r ≡ n → r < 100000000000 → r ≡ n % 100000000000
rest_of w r n e h = omega arith

pub exact_text : {worth : ℕ} {passed units : ℤ} {d : Dollars} → passed ≡ units → IsExactly worth passed d → dollar_text d.is_credit d.whole d.fraction ≡ amount_text worth units
exact_text {worth = worth} {units = units} {d = d} e k =
    let h = subst (λ z. IsExactly worth z d) e k in
    let n = worth * nat_abs units in
    let w = whole_of d.whole d.fraction n h.size h.below in
    let r = rest_of d.whole d.fraction n h.size h.below in
    rw (h.sign, w, r)
