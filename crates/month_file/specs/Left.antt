-- What is read of the records that are left of a file. Assumes nothing.
use Rattle.std.specs.Prelude.{◌-◌, Some, None, Ok, Err, Option, Result}
use Rattle.month_meaning.specs.declared.fault.Fault.{Fault}
use Rattle.month_meaning.specs.Months.{Month}
use Rattle.month_meaning.specs.Reading.{Reading, read_on}
use Rattle.month_file.specs.declared.records.Records.{Records}

-- what is read of the records that are left, over the month that was made so far
abbrev pub read_left : Option Month → Records → Reading
read_left made records = read_on (records.total - records.before) made records.before records.total records.left.now

-- what is read where a month was set up, or was not, and then these records are left
abbrev pub read_after : Result Month Fault → Records → Reading
read_after (Ok month) records = read_left (Some month) records
read_after (Err fault) records = (None, Err fault)
