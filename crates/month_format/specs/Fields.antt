-- Numbers in the fields of a record. Assumes nothing; the bytes of a file are below 256.
use Rattle.std.specs.Prelude.{ℕ, ◌+◌, ◌*◌, ◌/◌, ◌%◌, ◌<◌, List, [], ◌∷◌, slice_index}

-- a number in four bytes, the highest first
abbrev pub quad : ℕ → List ℕ
quad n = n / 16777216 ∷ n / 65536 % 256 ∷ n / 256 % 256 ∷ n % 256 ∷ []

-- the number in the four bytes from a place on, the highest first
abbrev pub quad_at : List ℕ → ℕ → ℕ
quad_at bytes at = slice_index bytes at * 16777216 + slice_index bytes (at + 1) * 65536 + slice_index bytes (at + 2) * 256 + slice_index bytes (at + 3)

-- numbers that bytes hold
abbrev pub AllBytes : List ℕ → Type 0
AllBytes bytes = (k : ℕ) → slice_index bytes k < 256
