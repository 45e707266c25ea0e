use Rattle.std.proofs.Common.{take, sym, ap, ◌∙◌, subst, to_z-of_z, w64, SFits, rules}
use Rattle.std.proofs.lemmas.List.{take_min}
use Rattle.listing.specs.Listing.{closed_listing, listing_text}
use Rattle.listing.specs.Sheets.{Adds}
use Rattle.listing.proofs.sheet.Sheet.listing.Goals as goal

pub returns-in-Closed : goal.returns-in-Closed
returns-in-Closed c =
    let days = c.in-Closed.days in
    let bills = c.in-Closed.bills.now in
    let total = c.in-Closed.total in
    let fits : SFits w64 total = search rules in
    let listed = ap (λ members. take members bills) c.min.ensures ∙ take_min 40 bills in
    let text = ap (λ z. closed_listing days (take c.min.result bills) z) (to_z-of_z fits) ∙ ap (λ xs. closed_listing days xs total) listed ∙ ap listing_text (sym c.in-Closed.is) in
    subst (λ t. Adds c.args.self.now t c.closed.new.self) text c.closed.ensures
