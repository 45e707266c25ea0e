use Rattle.std.proofs.Common.{◌+◌, ◌*◌, ◌≤◌, take}
use Rattle.std.specs.List.{flat_map}
use Rattle.listing.specs.Sheets.{Adds}
use Rattle.listing.proofs.Ending.{spaced}
use Rattle.listing.proofs.sheet.Sheet.line.Given as goal

abbrev pub invariant-loop-word : goal.invariant-loop-word
invariant-loop-word l = Adds l.initial.self (flat_map spaced (take l.word-index l.words)) l.self × (l.self.end ≤ l.initial.self.end + 21 * l.word-index)
