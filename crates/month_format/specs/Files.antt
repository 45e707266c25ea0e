-- A file's length and version. Assumes nothing.
use Rattle.std.specs.Prelude.{ℕ, cond, List, length, drop, Ok, Err, Result, ◌==◌, nat_lt, slice_index}
use Rattle.month_format.specs.declared.errors.BytesError.{BytesError}
use Rattle.month_format.specs.declared.errors.BytesError.TheVariants.{TooLong, BadVersion}

-- the most bytes of a file
abbrev pub most_bytes : ℕ
most_bytes = 65536

-- what comes after the version, which is 1; an empty file has none
abbrev pub versioned : List ℕ → Result (List ℕ) BytesError
versioned file =
    cond (nat_lt most_bytes (length file)) (Err TooLong)
    (cond (slice_index file 0 == 1) (Ok (drop 1 file))
    (Err BadVersion))
