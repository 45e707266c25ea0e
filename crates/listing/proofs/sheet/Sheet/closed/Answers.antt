use Rattle.std.proofs.Common.{[], ◌∷◌, length, decimal, subst, to_z-of_z}
use Rattle.std.specs.List.{flat_map}
use Rattle.listing.specs.Lines.{line}
use Rattle.listing.specs.Listing.{head_line, bill_line, total_line}
use Rattle.listing.specs.Sheets.{Adds}
use Rattle.listing.proofs.Adding.{adds_both}
use Rattle.listing.proofs.sheet.Sheet.closed.Goals as goal

pub returns : goal.returns
returns c =
    let start = c.args.self.now in
    let bills = c.args.bills.now in
    let head = subst (λ n. Adds start (line (decimal n ∷ decimal (length bills) ∷ [])) c.line.new.self) c.into.ensures c.line.ensures.adds in
    let end = subst (λ z. Adds c.bills.new.self (total_line z) c.line-2.new.self) (to_z-of_z c.ranges.total) c.line-2.ensures.adds in
    let rest = adds_both c.line.new.self (flat_map bill_line bills) c.bills.new.self (total_line c.args.total) c.line-2.new.self c.bills.ensures.adds end in
    adds_both start (head_line c.args.days (length bills)) c.line.new.self _ c.line-2.new.self head rest
