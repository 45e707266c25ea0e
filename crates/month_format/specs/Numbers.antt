-- The number and the layer of each refusal of bytes and of a record. Assumes nothing.
use Rattle.std.specs.Prelude.{ℕ}
use Rattle.month_format.specs.declared.errors.BytesError.{BytesError}
use Rattle.month_format.specs.declared.errors.BytesError.TheVariants.{TooLong, BadVersion, CutShort}
use Rattle.month_format.specs.declared.errors.RecordError.{RecordError}
use Rattle.month_format.specs.declared.errors.RecordError.TheVariants.{Bytes, UnknownLetter, WrongLength, MisplacedSetUp, BadBandCount}
use Rattle.month_format.specs.declared.place.Layer.{Layer}
use Rattle.month_format.specs.declared.place.Layer.TheVariants as the_layer

-- the number of each refusal of bytes
abbrev pub bytes_number : BytesError → ℕ
bytes_number TooLong = 40
bytes_number BadVersion = 41
bytes_number CutShort = 42

-- the number of each refusal of a record
abbrev pub record_number : RecordError → ℕ
record_number (Bytes error) = bytes_number error
record_number UnknownLetter = 43
record_number WrongLength = 44
record_number MisplacedSetUp = 45
record_number BadBandCount = 46

-- the layer that refuses: the bytes or the record
abbrev pub record_layer : RecordError → Layer
record_layer (Bytes error) = the_layer.Bytes
record_layer UnknownLetter = the_layer.Record
record_layer WrongLength = the_layer.Record
record_layer MisplacedSetUp = the_layer.Record
record_layer BadBandCount = the_layer.Record

-- the number of each layer: 1 the bytes, 2 the record, 3 the book
abbrev pub layer_number : Layer → ℕ
layer_number the_layer.Bytes = 1
layer_number the_layer.Record = 2
layer_number the_layer.Book = 3
