use Rattle.std.proofs.Common.{◌≡◌, map, take, length}
use Rattle.tariff.specs.BandLines.{line_of}
use Rattle.tariff.proofs.ladder.Ladder.first_greatest_of.Given as goal

-- the first i bands have their lines
abbrev pub invariant-loop-i : goal.invariant-loop-i
invariant-loop-i g l =
    (length l.lines ≡ g.row.N) × (take l.i l.lines ≡ map (line_of l.fn.self.average l.fn.self.lowest) (take l.i l.fn.bands))
