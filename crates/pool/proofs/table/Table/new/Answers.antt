use Rattle.std.proofs.Common.{◌≤◌, Bool, false, List, [], length, get_or, refl, sym, ap, ◌∙◌, subst, lit≤, replicate, take}
use Rattle.std.proofs.lemmas.List.{length-replicate, take-replicate}
use Rattle.agreement.specs.declared.status.Status.TheVariants.{Open}
use Rattle.agreement.specs.declared.day.Day.{Day}
use Rattle.agreement.specs.Book.{Book, blank}
use Rattle.rules.specs.Days.{most_days}
use Rattle.agreement.specs.Limits.{most_members, most_retention}
use Rattle.agreement.specs.Sizes.{SmallDay}
use Rattle.pool.specs.declared.table.Enrolled.{Enrolled}
use Rattle.pool.specs.Contents.{members_of, no_one}
use Rattle.pool.proofs.Lists.{get_or-all_same}
use Rattle.pool.proofs.table.Table.new.Goals as goal

blank_small : SmallDay blank
blank_small = record { nominated_most = lit≤ tt; read_most = lit≤ tt; received_most = lit≤ tt }

pub invariant_of-result : goal.invariant_of-result
invariant_of-result c =
    let none = c.new.ensures in
    record {
      few = subst (λ (es : List Enrolled). length es ≤ most_members) (sym none) (lit≤ tt);
      cells = length-replicate {A = Day} 1240 blank;
      marks = refl;
      retained = λ i. subst (λ (es : List Enrolled). (get_or es i no_one).retention ≤ most_retention) (sym none) (lit≤ tt);
      small = λ k. subst SmallDay (sym (get_or-all_same {X = Day} 1240 k blank)) blank_small;
      rest = λ k _. get_or-all_same {X = Day} 1240 k blank;
    }

pub returns-clause-book : goal.returns-clause-book
returns-clause-book c =
    let n = c.args.days.count in
    let Made : List Enrolled → List Bool → Book = λ es notices. record { days = n; members = members_of n es (replicate 1240 blank); notices = notices; status = Open } in
    ap (λ (es : List Enrolled). Made es (take n (replicate 31 false))) c.new.ensures ∙ ap (Made []) (take-replicate n most_days false c.args.days.most)
