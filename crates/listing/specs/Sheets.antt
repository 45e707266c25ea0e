-- A block of the caller's that is filled from its start. Assumes nothing.
use Rattle.std.specs.Prelude.{◌≡◌, ℕ, ◌+◌, ◌≤◌, List, ◌++◌, length, take, drop}
use Rattle.listing.specs.declared.sheet.TheConstants.{BLOCK}
use Rattle.listing.specs.declared.sheet.Sheet.{Sheet}

-- what is written of the block, and what lies beyond it
abbrev pub text_of : Sheet → List ℕ
text_of sheet = take sheet.end sheet.block.now

abbrev pub rest_of : Sheet → List ℕ
rest_of sheet = drop sheet.end sheet.block.now

-- there is room for so many bytes more
abbrev pub HasRoom : Sheet → ℕ → Type 0
HasRoom sheet bytes = sheet.end + bytes ≤ BLOCK

-- the same block, with a text more; the rest of it is as it was
pub record Adds (old : Sheet) (text : List ℕ) (new : Sheet) : Type 0 where
  pub lender : new.block.ghost_name ≡ old.block.ghost_name
  pub written : text_of new ≡ text_of old ++ text
  pub rest : rest_of new ≡ drop (length text) (rest_of old)
  pub end : new.end ≡ old.end + length text
