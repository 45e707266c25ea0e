use Rattle.std.proofs.Common.{◌≡◌, ◌++◌, take, drop}
use Rattle.agreement.specs.Runs.{answers_to, run}
use Rattle.pool.proofs.book.PoolBook.run_into.Given as goal

-- the calls that are left, and the answers so far with theirs, give what all the calls give
abbrev pub invariant-loop-i : goal.invariant-loop-i
invariant-loop-i g l =
    (run (drop l.i l.calls) l.self.table ≡ run l.calls l.initial.self.table)
    × (take l.i l.answers ++ answers_to (drop l.i l.calls) l.self.table ≡ answers_to l.calls l.initial.self.table)
    × (l.self.schedules ≡ l.initial.self.schedules)
