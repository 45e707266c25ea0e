-- The number of days that a month can have. Assumes nothing.
use Rattle.std.specs.Prelude.{ℕ, Bool, not, ◌&&◌, [], ◌∷◌, Result, nat_le}
use Rattle.agreement.specs.declared.refusals.Refusal.{Refusal}
use Rattle.agreement.specs.declared.refusals.Refusal.TheVariants.{MonthLength}
use Rattle.rules.specs.Checks.{◌when◌, first, unless}
use Rattle.rules.specs.Days.{is_month_length}

-- whether a month of so many days has this day; days count from 1
abbrev pub has_day : ℕ → ℕ → Bool
has_day day days = nat_le 1 day && nat_le day days

-- the test of a number of days, before a month is set up with it
abbrev pub checked : ℕ → Result ℕ Refusal
checked days = unless (first (MonthLength when not (is_month_length days) ∷ [])) days
