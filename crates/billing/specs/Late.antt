-- The late charge. Assumes nothing.
use Rattle.std.specs.Prelude.{ℕ, ◌+◌, ◌-◌, ◌*◌, min, ℤ, pos, negsuc}
use Rattle.billing.specs.Rounding.{halves_up}

-- 10% of the first $3.00 owed and 3% of the rest, in cents, rounded once; nothing on credit
abbrev pub late : ℤ → ℕ
late (pos owed) = halves_up (10 * min owed 300 + 3 * (owed - 300)) 100
late (negsuc credit) = 0
