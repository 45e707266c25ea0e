use Rattle.std.proofs.Common.{◌≡◌, ◌++◌, take, drop, map}
use Rattle.agreement.specs.Postings.{with_nomination}
use Rattle.pool.proofs.calls.nominate_each.Given as goal

abbrev pub invariant-loop-day : goal.invariant-loop-day
invariant-loop-day l = l.day-items ≡ map (with_nomination l.therms) (take l.day-index l.fn.days) ++ drop l.day-index l.fn.days
