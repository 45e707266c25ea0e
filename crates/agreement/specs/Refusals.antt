-- The numbers of refusals. Assumes nothing.
use Rattle.std.specs.Prelude.{ℕ}
use Rattle.agreement.specs.declared.refusals.Refusal.{Refusal}
use Rattle.agreement.specs.declared.refusals.Refusal.TheVariants.{MonthLength, MonthClosed, PoolFull, AccountZero, AlreadyEnrolled, RetentionTooHigh, NotEnrolled, NoSuchDay, TooManyTherms, NoMember, ReadMissing, NotClosed}

-- the number of each refusal
abbrev pub number_of : Refusal → ℕ
number_of MonthLength = 1
number_of MonthClosed = 11
number_of PoolFull = 12
number_of AccountZero = 13
number_of AlreadyEnrolled = 14
number_of RetentionTooHigh = 15
number_of NotEnrolled = 16
number_of NoSuchDay = 17
number_of TooManyTherms = 18
number_of NoMember = 22
number_of (ReadMissing member day) = 23
number_of NotClosed = 31
