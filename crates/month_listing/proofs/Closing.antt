-- The listing of a month that was settled. Assumes nothing.
use Rattle.std.proofs.Common.{◌≡◌, ℕ, ◌≤◌, Bool, List, length, take, ℤ, Some, sym, ap, ◌∙◌}
use Rattle.std.proofs.lemmas.List.{take_all}
use Rattle.agreement.specs.declared.bills.Bill.{Bill}
use Rattle.agreement.specs.Limits.{most_members}
use Rattle.agreement.specs.Sums.{sum_of}
use Rattle.listing.specs.Listing.{closed_listing}
use Rattle.pool.specs.Settled.{Settles}
use Rattle.month_meaning.specs.Months.{Month}
use Rattle.month_meaning.specs.Bills.{Fair, terms_of}
use Rattle.month_listing.specs.Printed.{when_closed, printed_month}

module _ (m : Month) (handed : List Bill) (settled : Settles (terms_of m) m.book handed) where
  pub closing : (days : ℕ) (total : ℤ) → length handed ≤ most_members → days ≡ m.book.days → total ≡ sum_of (λ (bill : Bill). bill.cents) handed → closed_listing days (take most_members handed) total ≡ printed_month (Some m)
  closing days total few d t =
      ap (λ (xs : List Bill). closed_listing days xs total) (take_all most_members handed few)
      ∙ ap (λ (n : ℕ). closed_listing n handed total) d
      ∙ ap (λ (z : ℤ). closed_listing m.book.days handed z) t
      ∙ ap (λ (xs : List Bill). closed_listing m.book.days xs (sum_of (λ (bill : Bill). bill.cents) xs)) settled.agreed
      ∙ ap (λ (b : Bool). when_closed b m) (sym settled.closed)

  pub fairly : Fair (Some m)
  fairly closed = rw (sym settled.agreed) settled.fair
