-- The next record of what is left of a file, with its place. Assumes nothing.
use Rattle.std.specs.Prelude.{◌≡◌, ℕ, ◌+◌, ◌<◌, List, [], length, Some, None, Option, Result}
use Rattle.month_format.specs.declared.errors.RecordError.{RecordError}
use Rattle.month_format.specs.declared.place.Place.{Place}
use Rattle.month_format.specs.declared.record.Record.{Record}
use Rattle.month_format.specs.Records.{record_at, beside}
use Rattle.month_format.specs.Views.{said_by, seen}
use Rattle.month_meaning.specs.Reading.{place_at}

-- what is given next, where so many records came before, the file has so many bytes, and these are left: nothing where
-- none is left, else the first record, or why it is none, with its place
abbrev pub Gives : ℕ → ℕ → List ℕ → Option (Place × Result Record RecordError) → ℕ → ℕ → List ℕ → Type 0
Gives before total left None before' total' left' = left ≡ []
Gives before total left (Some next) before' total' left' =
    (0 < length left) × (next.0 ≡ place_at before total left) × (record_at left ≡ beside (seen said_by next.1) left') × (before' ≡ before + 1) × (total' ≡ total)
