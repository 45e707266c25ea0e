use Rattle.std.proofs.Common.{◌+◌, ◌*◌, ◌≤◌, take}
use Rattle.std.specs.List.{flat_map}
use Rattle.listing.specs.Listing.{bill_line}
use Rattle.listing.specs.Sheets.{Adds}
use Rattle.listing.specs.Words.{most_line}
use Rattle.listing.proofs.sheet.Sheet.bills.Given as goal

abbrev pub invariant-loop-bill : goal.invariant-loop-bill
invariant-loop-bill l = Adds l.initial.self (flat_map bill_line (take l.bill-index l.bills)) l.self × (l.self.end ≤ l.initial.self.end + most_line 2 * l.bill-index)
