-- One record of a file in the layers of the code that reads it: bytes, then record, then book. Assumes nothing.
use Rattle.std.specs.Prelude.{Ok, Err, Option, Result}
use Rattle.month_format.specs.declared.errors.RecordError.{RecordError}
use Rattle.month_format.specs.Entries.{Entry}
use Rattle.month_meaning.specs.declared.errors.FileError.{FileError}
use Rattle.month_meaning.specs.declared.errors.FileError.TheVariants.{InRecord}
use Rattle.month_format.specs.declared.place.Place.{Place}
use Rattle.month_meaning.specs.declared.fault.Fault.{Fault}
use Rattle.month_meaning.specs.Faults.{fault}
use Rattle.month_meaning.specs.Months.{Month}
use Rattle.month_meaning.specs.Reading.{posted}

-- an error with its place
abbrev pub placed : {X : Type 0} → Result X FileError → Place → Result X Fault
placed (Ok x) place = Ok x
placed (Err error) place = Err (fault error place)

-- the month that stands after an entry
abbrev pub month_or : Month → Result Month FileError → Month
month_or before (Ok month) = month
month_or before (Err error) = before

-- whether an entry was posted
abbrev pub done : Result Month FileError → Result (Unit {0}) FileError
done (Ok month) = Ok tt
done (Err error) = Err error

-- the month after a record that was read
abbrev pub posted_read : Option Month → Result Entry RecordError → Result Month FileError
posted_read made (Ok entry) = posted made entry
posted_read made (Err error) = Err (InRecord error)
