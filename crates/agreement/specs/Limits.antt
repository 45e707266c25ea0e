-- The limits of a pool's month. Assumes nothing.
use Rattle.std.specs.Prelude.{ℕ, ◌*◌}
use Rattle.rules.specs.Days.{most_days}

-- the members of a full pool
abbrev pub most_members : ℕ
most_members = 40

-- the highest retention, in tenths of a percent
abbrev pub most_retention : ℕ
most_retention = 50

-- the most gas that is posted for one member and day, in therms
abbrev pub most_therms : ℕ
most_therms = 50000

-- the most gas that a member has on a day and in a month, and a pool in a month, in thousandths of a therm
abbrev pub most_day_gas : ℕ
most_day_gas = 1000 * most_therms

abbrev pub most_month_gas : ℕ
most_month_gas = most_days * most_day_gas

abbrev pub most_pool_gas : ℕ
most_pool_gas = most_members * most_month_gas
