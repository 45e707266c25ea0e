use Rattle.std.proofs.Common.{◌≡◌, ◌++◌, take, drop}
use Rattle.billing.specs.Keepings.{kept, Leaves}
use Rattle.billing.specs.Runs.{answers, after_all}
use Rattle.billing.proofs.ledger.Keeping+Account.run.Given as goal

-- the calls up to i, of those that there is room for, are made
abbrev pub invariant-loop-i : goal.invariant-loop-i
invariant-loop-i l =
    Leaves l.initial.self l.self (after_all (take l.i (take l.count l.calls)) (kept l.initial.self)) × (l.answers ≡ answers (take l.i (take l.count l.calls)) (kept l.initial.self) ++ drop l.i l.initial.answers)
