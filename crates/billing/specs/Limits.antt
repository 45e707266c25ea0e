-- The limits of sheets, bills and accounts. Assumes nothing.
use Rattle.std.specs.Prelude.{ℕ}

-- the highest monthly charge of a rate sheet, in cents
abbrev pub most_monthly_cents : ℕ
most_monthly_cents = 1000000

-- the highest rate, in millionths of a dollar a therm
abbrev pub most_rate : ℕ
most_rate = 9999999

-- the most gas of a bill, in therms
abbrev pub most_therms : ℕ
most_therms = 1550000

-- the largest amount of a posting or a payment, either way, in cents
abbrev pub most_amount : ℕ
most_amount = 200000000000

-- the largest balance, either way, in cents
abbrev pub most_balance : ℕ
most_balance = 1000000000000000
