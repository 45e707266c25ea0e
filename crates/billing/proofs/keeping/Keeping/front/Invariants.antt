use Rattle.std.proofs.Common.{length, ◌-◌, ◌≤◌}
use Rattle.billing.proofs.keeping.Keeping.front.Given as goal

abbrev pub invariant-loop-end : goal.invariant-loop-end
invariant-loop-end g l = 1 ≤ l.end

abbrev pub decreases-loop-end : goal.decreases-loop-end
decreases-loop-end g l = length l.records - l.end
