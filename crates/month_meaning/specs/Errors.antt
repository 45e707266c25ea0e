-- The layer and the number of each error, and the read that is missing. Assumes nothing.
use Rattle.std.specs.Prelude.{ℕ, Some, None, Option}
use Rattle.agreement.specs.declared.refusals.Refusal.{Refusal}
use Rattle.agreement.specs.declared.refusals.Refusal.TheVariants.{MonthLength, MonthClosed, PoolFull, AccountZero, AlreadyEnrolled, RetentionTooHigh, NotEnrolled, NoSuchDay, TooManyTherms, NoMember, ReadMissing, NotClosed}
use Rattle.agreement.specs.Refusals.{number_of}
use Rattle.tariff.specs.declared.refusal.Refusal as the_ladder
use Rattle.tariff.specs.declared.refusal.Refusal.TheVariants.{PriceTooHigh, LowestAboveAverage, BadLineList, BadBandCount}
use Rattle.tariff.specs.Refusals.{number}
use Rattle.month_format.specs.declared.place.Layer.{Layer}
use Rattle.month_format.specs.declared.place.Layer.TheVariants.{Record, Book}
use Rattle.month_format.specs.Numbers.{record_layer, record_number}
use Rattle.month_meaning.specs.declared.errors.FileError.{FileError}
use Rattle.month_meaning.specs.declared.errors.MissingRead.{MissingRead}
use Rattle.month_meaning.specs.declared.errors.FileError.TheVariants.{InRecord, InLadder, InBook}

-- the layer of a ladder's refusal: the number of bands is a matter of the record, the prices one of the book
abbrev pub ladder_layer : the_ladder.Refusal → Layer
ladder_layer PriceTooHigh = Book
ladder_layer LowestAboveAverage = Book
ladder_layer BadLineList = Book
ladder_layer BadBandCount = Record

-- the layer of each error: the bytes, the record or the book
abbrev pub layer_of : FileError → Layer
layer_of (InRecord error) = record_layer error
layer_of (InLadder refusal) = ladder_layer refusal
layer_of (InBook refusal) = Book

-- the number of each error
abbrev pub number_in : FileError → ℕ
number_in (InRecord error) = record_number error
number_in (InLadder refusal) = number refusal
number_in (InBook refusal) = number_of refusal

-- the read that is missing, where that is why the book refuses
abbrev pub missing_in : Refusal → Option MissingRead
missing_in MonthLength = None
missing_in MonthClosed = None
missing_in PoolFull = None
missing_in AccountZero = None
missing_in AlreadyEnrolled = None
missing_in RetentionTooHigh = None
missing_in NotEnrolled = None
missing_in NoSuchDay = None
missing_in TooManyTherms = None
missing_in NoMember = None
missing_in (ReadMissing member day) = Some (record { member = member; day = day })
missing_in NotClosed = None

-- the read that is missing, where that is why
abbrev pub missing : FileError → Option MissingRead
missing (InRecord error) = None
missing (InLadder refusal) = None
missing (InBook refusal) = missing_in refusal
