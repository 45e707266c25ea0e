-- A block of the caller's after a text was written into it. Assumes nothing.
use Rattle.std.specs.Prelude.{ℕ, ◌+◌, List, ◌++◌, length, take, drop}

-- the block with a text in the place of what lay from a place on; all the rest is as it was
abbrev pub written : ℕ → List ℕ → List ℕ → List ℕ
written at text block = take at block ++ (text ++ drop (at + length text) block)
