-- The lines that fix the charges are within the limits. Assumes nothing.
use Rattle.std.proofs.Common.{◌≡◌, ℕ, Bool, true, false, List, sym, refl, subst}
use Rattle.schedule.specs.declared.line.Line.{Line}
use Rattle.schedule.specs.Lines.{within_limits}
use Rattle.schedule.specs.Schedules.{is_schedule}
use Rattle.schedule.proofs.Greatest.{answer_has, schedule_within}
use Rattle.agreement.specs.Book.{Book, Member}
use Rattle.agreement.specs.Gases.{total}
use Rattle.agreement.specs.Charges.{Charge, Terms, balancing, cash_out_charge, noticed, overrun}
use Rattle.agreement.specs.Shares.{fixing}
use Rattle.pool.specs.declared.lines.FixingLines.{FixingLines}
use Rattle.pool.specs.Fixing.{DayWithin, Fixes, Limited, fixed_on, where_marked}

fixing_within : (members : List Member) (c : Charge) → is_schedule c.lines ≡ true → within_limits (fixing members c) ≡ true
fixing_within members c h =
    let g = total c.gas members in
    answer_has (λ l. within_limits l ≡ true) g.difference g.base c.lines h (schedule_within c.lines h)

marked_within : (marked : Bool) (l : Line) → within_limits l ≡ true → within_limits (where_marked marked l) ≡ true
marked_within true l h = h
marked_within false l h = refl

module _ (ls : FixingLines) (t : Terms) (book : Book) (fixes : Fixes ls t book) (p : is_schedule t.month ≡ true) (q : is_schedule t.day ≡ true) (r : is_schedule t.overrun ≡ true) where
  on_within : (day : ℕ) → DayWithin (fixed_on t book day)
  on_within day =
      record {
        balancing_within = fixing_within book.members (balancing t day) q;
        overrun_within = marked_within (noticed book day) _ (fixing_within book.members (overrun t day) r);
      }

  pub are_limited : Limited ls book.days
  are_limited =
      record {
        month_within = subst (λ (l : Line). within_limits l ≡ true) (sym fixes.month_fixed) (fixing_within book.members (cash_out_charge t) p);
        days_within = λ day from upto. subst DayWithin (sym (fixes.days_fixed day from upto)) (on_within day);
      }
