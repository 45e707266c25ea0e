use Rattle.std.proofs.Common.{◌≡◌, take}
use Rattle.schedule.proofs.Scan.{kept}
use Rattle.schedule.proofs.answer.first_greatest.Given as goal

abbrev pub invariant-loop-line : goal.invariant-loop-line
invariant-loop-line l = l.best ≡ kept l.gas.difference l.gas.base l.initial.best (take l.line-index l.rest)
