-- What the quoted accounts say, of quantities in whole therms. Assumes nothing.
use Rattle.std.specs.Prelude.{◌≡◌, ℕ, ◌*◌, Bool, true, false, cond, ℤ, pos, ◌+ℤ◌, ◌-ℤ◌, ◌*ℤ◌, Some, None, Option}
use Rattle.schedule.specs.declared.charge.Charge.{Charge}
use Rattle.schedule.specs.declared.gas.Gas.{Gas}
use Rattle.schedule.specs.Answers.{in_range, answer}
use Rattle.std.specs.Option.{option_map}
use Rattle.tariff.specs.Refusals.{ladder_refusal}
use Rattle.tariff.specs.Tables.{bands_of}
use Rattle.tariff.specs.BandLines.{ladder_lines}
use Rattle.tariff.specs.Banded.{banded}
use Rattle.tariff.specs.Daily.{tolerance_lines, tolerance_charge, overrun_lines, overrun_charge}
use Rattle.quote.specs.declared.account.CashOut.{CashOut}
use Rattle.quote.specs.declared.account.DayAccount.{DayAccount}
use Rattle.quote.specs.declared.account.Refused.{Refused}
use Rattle.quote.specs.declared.account.Refused.TheVariants.{OutOfRange, NoLadder}
use Rattle.quote.specs.declared.request.Month.{Month}
use Rattle.quote.specs.declared.request.DayUse.{DayUse}

-- so many therms less so many others, in thousandths of a therm
abbrev pub difference : ℕ → ℤ → ℤ
difference more less = pos 1000 *ℤ (pos more -ℤ less)

-- the gas that is charged of so many therms less so many others, on a base
abbrev pub gas_between : ℕ → ℤ → ℕ → Gas
gas_between more less base = record { difference = difference more less; base = 1000 * base }

-- why nothing is charged on it: a base or a difference out of range
abbrev pub gas_refused : ℕ → ℤ → ℕ → Option Refused
gas_refused more less base = cond (in_range (difference more less) (1000 * base)) None (Some OutOfRange)

-- why there is no cash-out: a base or a difference out of range, then what the ladder is refused by
abbrev pub cash_out_refused : Month → Option Refused
cash_out_refused month =
    cond (in_range (difference month.delivered month.received) (1000 * month.delivered)) (option_map NoLadder (ladder_refusal month.bands month.average month.lowest)) (Some OutOfRange)

-- why there is no account of a day: a base or a difference out of range
abbrev pub day_refused : DayUse → Option Refused
day_refused day = gas_refused day.used (pos day.nominated) day.nominated

-- the cash-out of gas delivered against net gas received: the line that fixed it, and the banded amount
pub record CashedOut (month : Month) (q : CashOut) : Type 0 where
  pub difference_is : q.gas.difference ≡ difference month.delivered month.received
  pub base_is : q.gas.base ≡ 1000 * month.delivered
  pub line_is : q.charge.line ≡ answer (difference month.delivered month.received) (1000 * month.delivered) (ladder_lines (bands_of month.bands) month.average month.lowest)
  pub grains_are : q.charge.grains ≡ banded (bands_of month.bands) month.average month.lowest (difference month.delivered month.received) (1000 * month.delivered)

-- the overrun charge of a day is there just on a day with a notice
abbrev pub Overran : Bool → ℤ → ℕ → Option Charge → Type 0
Overran notice d m None = notice ≡ false
Overran notice d m (Some c) =
    (notice ≡ true) × (c.line ≡ answer d m overrun_lines) × (c.grains ≡ overrun_charge d m)

-- what an overrun charge adds
abbrev pub overrun_grains : Option Charge → ℤ
overrun_grains None = pos 0
overrun_grains (Some c) = c.grains

-- the charges of a day's use against its nomination
pub record DayCharged (day : DayUse) (q : DayAccount) : Type 0 where
  pub difference_is : q.gas.difference ≡ difference day.used (pos day.nominated)
  pub base_is : q.gas.base ≡ 1000 * day.nominated
  pub balancing_line : q.balancing.line ≡ answer (difference day.used (pos day.nominated)) (1000 * day.nominated) tolerance_lines
  pub balancing_grains : q.balancing.grains ≡ tolerance_charge (difference day.used (pos day.nominated)) (1000 * day.nominated)
  pub overran : Overran day.notice (difference day.used (pos day.nominated)) (1000 * day.nominated) q.overrun
  pub total_is : q.total ≡ q.balancing.grains +ℤ overrun_grains q.overrun
