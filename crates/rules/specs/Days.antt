-- The days of a month. Assumes nothing.
use Rattle.std.specs.Prelude.{ℕ, Bool, ◌&&◌, nat_le}

-- the shortest and the longest month, in days
abbrev pub least_days : ℕ
least_days = 28

abbrev pub most_days : ℕ
most_days = 31

-- whether a month can have so many days
abbrev pub is_month_length : ℕ → Bool
is_month_length days = nat_le least_days days && nat_le days most_days
