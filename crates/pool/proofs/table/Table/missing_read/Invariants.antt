use Rattle.std.proofs.Common.{◌≡◌, ◌+◌, drop}
use Rattle.agreement.specs.Missing.{missing_from, missing_read}
use Rattle.pool.proofs.table.Table.missing_read.Given as goal

-- the first missing read of the members that are left is the first of all
abbrev pub invariant-loop-place : goal.invariant-loop-place
invariant-loop-place l = missing_from (l.place + 1) (drop l.place l.self.members) ≡ missing_read l.self.members
