-- What is printed of an account, and where there is none. Assumes nothing.
use Rattle.std.specs.Prelude.{ℕ, ◌/◌, ◌++◌, Bool, cond, List, [], ℤ, pos, int_lt, unsigned_abs, codes, decimal, Some, None, Option}
use Rattle.std.specs.Fmt.{signed_decimal}
use Rattle.schedule.specs.declared.charge.Charge.{Charge}
use Rattle.schedule.specs.declared.gas.Gas.{Gas}
use Rattle.tariff.specs.Refusals.{number, reason}
use Rattle.wording.specs.Amounts.{grains_text}
use Rattle.quote.specs.declared.account.CashOut.{CashOut}
use Rattle.quote.specs.declared.account.DayAccount.{DayAccount}
use Rattle.quote.specs.declared.account.Refused.{Refused}
use Rattle.quote.specs.declared.account.Refused.TheVariants.{OutOfRange, NoLadder}

-- the word for the side of a difference
abbrev pub side : List ℕ → List ℕ → ℤ → List ℕ
side above below difference = cond (int_lt difference (pos 0)) below above

-- the difference in whole therms with the word for its side, and the base
abbrev pub gas_text : List ℕ → List ℕ → Gas → List ℕ
gas_text above below gas =
    codes "  difference: " ++ (decimal (unsigned_abs gas.difference / 1000) ++ (codes " therms " ++ (side above below gas.difference ++ (codes "\n  base: " ++ (decimal (gas.base / 1000) ++ codes " therms\n")))))

-- what is said of an amount below 0
abbrev pub credit_note : Bool → List ℕ
credit_note credit = cond credit (codes ", a credit") []

-- an amount in grains, and exactly so in dollars
abbrev pub amount_lines : List ℕ → ℤ → List ℕ
amount_lines name grains =
    codes "  " ++ (name ++ (codes " charge: " ++ (signed_decimal grains ++ (codes " grains\n  " ++ (name ++ (codes " charge: " ++ (grains_text grains ++ (credit_note (int_lt grains (pos 0)) ++ codes "\n"))))))))

-- the line that fixed a charge, and the charge
abbrev pub charge_lines : List ℕ → Charge → List ℕ
charge_lines name charge =
    codes "  " ++ (name ++ (codes " line: " ++ (signed_decimal charge.line.a ++ (codes " of the difference and " ++ (signed_decimal charge.line.b ++ (codes " of the base, in grains a thousandth of a therm\n" ++ amount_lines name charge.grains))))))

-- the account of a monthly cash-out
abbrev pub cash_out_text : CashOut → List ℕ
cash_out_text q = gas_text (codes "short") (codes "long") q.gas ++ charge_lines (codes "cash-out") q.charge

-- the overrun charge of a day, where there is one
abbrev pub overrun_text : Option Charge → List ℕ
overrun_text None = []
overrun_text (Some charge) = charge_lines (codes "overrun") charge

-- the account of a day
abbrev pub day_text : DayAccount → List ℕ
day_text q =
    gas_text (codes "above the nomination") (codes "below the nomination") q.gas ++ (charge_lines (codes "balancing") q.balancing ++ (overrun_text q.overrun ++ amount_lines (codes "whole") q.total))

-- why there is no account; of a ladder the number of its refusal and the reason
abbrev pub refused_text : Refused → List ℕ
refused_text OutOfRange = codes "  a base or a difference above 62000000 therms is beyond every pool"
refused_text (NoLadder refusal) = codes "  refused with " ++ (decimal (number refusal) ++ (codes ": " ++ reason refusal))
