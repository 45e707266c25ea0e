use Rattle.std.proofs.Common.{◌≡◌, ℕ, ◌≤◌, List, length, take, ℤ, Some, sym, ap, ◌∙◌, subst, arith, to_z-of_z, w64, SFits, rules}
use Rattle.std.proofs.lemmas.List.{length-take-le}
use Rattle.agreement.specs.declared.bills.Bill.{Bill}
use Rattle.agreement.specs.Limits.{most_members}
use Rattle.listing.specs.Block.{written}
use Rattle.listing.specs.Listing.{closed_listing}
use Rattle.pool.specs.Settled.{handed_out}
use Rattle.month_file.specs.Views.{month_of, held_by}
use Rattle.month_meaning.specs.Bills.{Fair}
use Rattle.month_listing.specs.Printed.{printed_month}
use Rattle.month_listing.proofs.Closing.{closing, fairly}
use Rattle.month_listing.proofs.printing.list_book.Goals as goal

pub returns : goal.returns
returns c =
    let month = month_of c.in-Some.book in
    let made : held_by c.args.book.now ≡ Some month = search rules in
    let s = c.in-Ok.settlement in
    let settled = c.in-Ok.ensures in
    let few : length (handed_out s) ≤ most_members = omega (arith, length-take-le s.count s.bills (omega (arith, s.few, s.places)), s.few) in
    let days = c.days.result in
    let total = c.total_cents.result in
    let fits : SFits w64 total = search rules in
    let text =
    ap (λ (z : ℤ). closed_listing days (take most_members c.bills.result.now) z) (to_z-of_z fits)
    ∙ ap (λ (xs : List Bill). closed_listing days (take most_members xs) total) c.bills.ensures
    ∙ closing month (handed_out s) settled days total few c.days.ensures c.total_cents.ensures ∙ ap printed_month (sym made) in
    record {
      block = c.write-2.ensures.block ∙ ap (λ (t : List ℕ). written 0 t c.args.block.now) text;
      end = c.write-2.ensures.end ∙ ap (λ (t : List ℕ). length t) text;
      fair = subst Fair (sym made) (fairly month (handed_out s) settled);
    }
