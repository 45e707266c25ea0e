-- The numbers of refusals. Assumes nothing.
use Rattle.std.specs.Prelude.{ℕ}
use Rattle.billing.specs.declared.refusals.Refusal.{Refusal}
use Rattle.billing.specs.declared.refusals.Refusal.TheVariants.{MonthLength, KeepingFull, NumberInUse, NoSuchNumber, AmountTooLarge, BadSheet, BalanceTooLarge, ServedTooLong, TooManyTherms}

-- the number of each refusal
abbrev pub number_of : Refusal → ℕ
number_of MonthLength = 1
number_of KeepingFull = 51
number_of NumberInUse = 52
number_of NoSuchNumber = 53
number_of AmountTooLarge = 54
number_of BadSheet = 55
number_of BalanceTooLarge = 56
number_of ServedTooLong = 57
number_of TooManyTherms = 58
