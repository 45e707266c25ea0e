-- The gas of a member and of a pool, in thousandths of a therm. Assumes nothing.
use Rattle.std.specs.Prelude.{ℕ, ◌+◌, ◌-◌, ◌*◌, List, [], ◌∷◌, pos, ◌+ℤ◌, ◌-ℤ◌, sum_by, slice_index_or}
use Rattle.schedule.specs.declared.gas.Gas.{Gas}
use Rattle.agreement.specs.declared.day.Day.{Day}
use Rattle.agreement.specs.Book.{Member, blank, therms_of}

-- therms in thousandths
abbrev pub thousandths : ℕ → ℕ
thousandths therms = 1000 * therms

-- a member's delivered gas: the sum of its reads
abbrev pub delivered_gas : Member → ℕ
delivered_gas m = thousandths (sum_by (λ day. therms_of day.reading) m.days)

-- a member's net received gas: of each therm received, the thousandths that are not retained
abbrev pub net_received_gas : Member → ℕ
net_received_gas m = (1000 - m.retention) * sum_by (λ day. day.received) m.days

-- a member's day of this number, from 1
abbrev pub day_of : ℕ → Member → Day
day_of n m = slice_index_or m.days (n - 1) blank

-- the gas used on a day
abbrev pub used_gas : Day → ℕ
used_gas day = thousandths (therms_of day.reading)

-- the gas nominated for a day
abbrev pub nominated_gas : Day → ℕ
nominated_gas day = thousandths day.nominated

-- what was taken less what there was for it, on a base
abbrev pub gas_of : ℕ → ℕ → ℕ → Gas
gas_of taken there base = record { difference = pos taken -ℤ pos there; base = base }

-- a member's gas for the month: delivered less net received, on what was delivered
abbrev pub for_month : Member → Gas
for_month m = gas_of (delivered_gas m) (net_received_gas m) (delivered_gas m)

-- a member's gas for a day: used less nominated, on what was nominated
abbrev pub for_day : ℕ → Member → Gas
for_day n m = gas_of (used_gas (day_of n m)) (nominated_gas (day_of n m)) (nominated_gas (day_of n m))

-- the gas of two together
abbrev pub together : Gas → Gas → Gas
together x y = record { difference = x.difference +ℤ y.difference; base = x.base + y.base }

-- the gas of a pool: that of its members together
abbrev pub total : (Member → Gas) → List Member → Gas
total gas [] = gas_of 0 0 0
total gas (m ∷ ms) = together (gas m) (total gas ms)
