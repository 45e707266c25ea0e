-- The fault of each error, and its six numbers. Assumes nothing.
use Rattle.std.specs.Prelude.{ℕ, List, [], ◌∷◌, Some, None}
use Rattle.std.specs.Option.{option_map_or}
use Rattle.month_format.specs.declared.place.Place.{Place}
use Rattle.month_format.specs.Numbers.{layer_number}
use Rattle.month_meaning.specs.declared.errors.FileError.{FileError}
use Rattle.month_meaning.specs.declared.fault.Fault.{Fault}
use Rattle.month_meaning.specs.Errors.{layer_of, number_in, missing}

-- the fault of an error in the record at a place
abbrev pub fault : FileError → Place → Fault
fault error place = record { why = error; place = Some place }

-- the fault of an error before the first record
abbrev pub unplaced : FileError → Fault
unplaced error = record { why = error; place = None }

-- the record, counted from 1; 0 where none was reached
abbrev pub nth_in : Fault → ℕ
nth_in fault = option_map_or (λ place. place.nth) fault.place 0

-- the byte where that record's length starts; 0 where none was reached
abbrev pub byte_in : Fault → ℕ
byte_in fault = option_map_or (λ place. place.byte) fault.place 0

-- the member of a missing read; 0 where no read is missing
abbrev pub member_in : Fault → ℕ
member_in fault = option_map_or (λ read. read.member) (missing fault.why) 0

-- the day of a missing read; 0 where no read is missing
abbrev pub day_in : Fault → ℕ
day_in fault = option_map_or (λ read. read.day) (missing fault.why) 0

-- the six numbers of a fault: layer, number, record, byte, member and day
abbrev pub numbers : Fault → List ℕ
numbers fault =
    layer_number (layer_of fault.why) ∷ number_in fault.why ∷ nth_in fault ∷ byte_in fault ∷ member_in fault ∷ day_in fault ∷ []
