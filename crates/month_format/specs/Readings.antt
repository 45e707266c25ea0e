-- When bytes begin with a record: the relation that the reading of a record stands under. Assumes nothing.
use Rattle.std.specs.Prelude.{◌≡◌, ℕ, List, ◌++◌, Ok, Result}
use Rattle.month_format.specs.declared.errors.RecordError.{RecordError}
use Rattle.month_format.specs.Entries.{Entry, frame}

-- an entry and a rest are answered exactly when the bytes are the entry's record, after its length, and then the rest
pub record Reads (bytes : List ℕ) (answer : Result (Entry × List ℕ) RecordError) : Type 0 where
  pub whenever : (entry : Entry) (rest : List ℕ) → bytes ≡ frame entry ++ rest → answer ≡ Ok (entry, rest)
  pub only : (entry : Entry) (rest : List ℕ) → answer ≡ Ok (entry, rest) → bytes ≡ frame entry ++ rest
