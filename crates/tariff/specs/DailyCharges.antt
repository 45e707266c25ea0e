-- The lines of the tolerance and of the overrun give what the tariff says. Assumes nothing.
use Rattle.std.proofs.Common.{◌≡◌, ℕ, suc, ◌*◌, ℤ, pos, negsuc, inl, inr, ⊎_elim, arith}
use Rattle.std.proofs.lemmas.Int.{ints}
use Rattle.std.proofs.lemmas.Bool.{cases_lt}
use Rattle.schedule.specs.Charges.{charge}
use Rattle.schedule.proofs.Greatest.{charge_is}
use Rattle.tariff.specs.Daily.{tolerance_lines, tolerance_charge, overrun_lines, overrun_charge}

pub tolerance_charges : (d : ℤ) (m : ℕ) → charge d m tolerance_lines ≡ tolerance_charge d m
tolerance_charges (pos n) m =
    charge_is (pos n) m (tolerance_charge (pos n) m) tolerance_lines (omega (arith, ints), (omega (arith, ints), (omega (arith, ints), tt))) (⊎_elim (λ l. inr (inl (omega (arith, ints)))) (λ l. inl (omega (arith, ints))) (cases_lt m (10 * n)))
tolerance_charges (negsuc k) m =
    charge_is (negsuc k) m (tolerance_charge (negsuc k) m) tolerance_lines (omega (arith, ints), (omega (arith, ints), (omega (arith, ints), tt))) (⊎_elim (λ l. inr (inr (inl (omega (arith, ints))))) (λ l. inl (omega (arith, ints))) (cases_lt m (10 * suc k)))

pub overrun_charges : (d : ℤ) (m : ℕ) → charge d m overrun_lines ≡ overrun_charge d m
overrun_charges (pos n) m =
    charge_is (pos n) m (overrun_charge (pos n) m) overrun_lines (omega (arith, ints), (omega (arith, ints), tt)) (⊎_elim (λ l. inr (inl (omega (arith, ints)))) (λ l. inl (omega (arith, ints))) (cases_lt m (10 * n)))
overrun_charges (negsuc k) m =
    charge_is (negsuc k) m (overrun_charge (negsuc k) m) overrun_lines (omega (arith, ints), (omega (arith, ints), tt)) (inl (omega (arith, ints)))
