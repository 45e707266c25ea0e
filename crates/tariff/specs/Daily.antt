-- The two charges of a day: their lines, and what they charge in the tariff's words. Assumes nothing.
use Rattle.std.specs.Prelude.{◌≡◌, ℕ, ◌-◌, ◌*◌, true, List, [], ◌∷◌, ℤ, pos, negsuc, unsigned_abs, refl}
use Rattle.schedule.specs.declared.line.Line.{Line}
use Rattle.schedule.specs.Lines.{line}
use Rattle.schedule.specs.Schedules.{is_schedule}

-- the lines of the tolerance: (0, 0), (100,000, -10,000) and (-100,000, -10,000)
abbrev pub tolerance_lines : List Line
tolerance_lines = line (pos 0) (pos 0) ∷ line (pos 100000) (negsuc 9999) ∷ line (negsuc 99999) (negsuc 9999) ∷ []

pub tolerance_lawful : is_schedule tolerance_lines ≡ true
tolerance_lawful = refl

-- what lies beyond ten percent of the base, either way, in tenths of a thousandth of a therm,
-- at 10,000 grains each, which is $0.025 a therm
abbrev pub tolerance_charge : ℤ → ℕ → ℤ
tolerance_charge difference base = pos (10000 * (10 * unsigned_abs difference - base))

-- the lines of the overrun: (0, 0) and (12,000,000, -1,200,000)
abbrev pub overrun_lines : List Line
overrun_lines = line (pos 0) (pos 0) ∷ line (pos 12000000) (negsuc 1199999) ∷ []

pub overrun_lawful : is_schedule overrun_lines ≡ true
overrun_lawful = refl

-- what is used above the base and ten percent of it, in tenths of a thousandth of a therm,
-- at 1,200,000 grains each, which is $3.00 a therm; gas below the base costs nothing
abbrev pub overrun_charge : ℤ → ℕ → ℤ
overrun_charge (pos n) base = pos (1200000 * (10 * n - base))
overrun_charge (negsuc k) base = pos 0
