use Rattle.std.proofs.Common.{◌≡◌, ℕ, ◌+◌, ◌-◌, ◌*◌, ◌<◌, ◌≤◌, List, length, get_or, take, drop, arith, ap, ◌∙◌, sym, subst, rules}
use Rattle.agreement.specs.Limits.{most_retention}
use Rattle.agreement.specs.Book.{Member}
use Rattle.agreement.specs.Sizes.{SmallMember}
use Rattle.pool.specs.declared.table.Enrolled.{Enrolled}
use Rattle.pool.specs.Contents.{no_one}
use Rattle.pool.proofs.Places.{count_is, member_at, member_is, small_at}
use Rattle.pool.proofs.table.Table.row.Goals as goal

pub bounds-deref-place : goal.bounds-deref-place
bounds-deref-place c = omega (arith, ap length c.deref.ensures.0, count_is c.self.inside c.self.invariant c.args.self.now c.self.view_is)

pub offset_bounds-deref-place : goal.offset_bounds-deref-place
offset_bounds-deref-place c = omega (arith, count_is c.self.inside c.self.invariant c.args.self.now c.self.view_is)

pub overflow_mul-first : goal.overflow_mul-first
overflow_mul-first c = omega (arith, count_is c.self.inside c.self.invariant c.args.self.now c.self.view_is)

pub overflow_add-result : goal.overflow_add-result
overflow_add-result c = omega (arith, count_is c.self.inside c.self.invariant c.args.self.now c.self.view_is, c.count.ensures, c.self.inside.days.most)

pub offset_bounds-self-inside-first : goal.offset_bounds-self-inside-first
offset_bounds-self-inside-first c = omega (arith, count_is c.self.inside c.self.invariant c.args.self.now c.self.view_is)

pub slice_bounds-result-end : goal.slice_bounds-result-end
slice_bounds-result-end c =
    let n = count_is c.self.inside c.self.invariant c.args.self.now c.self.view_is in
    let d = c.self.inside.days.most in
    let low : c.args.place * 31 ≤ c.args.place * 31 + c.count.result = omega arith in
    let high : c.args.place * 31 + c.count.result ≤ 1240 = omega (arith, c.count.ensures) in
    search rules

-- the fields of the result are the member at the place
here : (c : goal.After-result-1) → ◌≡◌ {A = Member} (record { account = (get_or c.deref.result.now c.args.place no_one).account; retention = (get_or c.deref.result.now c.args.place no_one).retention; days = take (c.args.place * 31 + c.count.result - c.args.place * 31) (drop (c.args.place * 31) c.self.inside.cells) }) (member_at c.self.inside.days.count c.self.inside.members.items c.self.inside.cells c.args.place)
here c =
    let place = c.args.place in
    let t = c.self.inside in
    let k : c.args.place * 31 + c.count.result - c.args.place * 31 ≡ c.self.inside.days.count = omega (arith, c.count.ensures) in
    let Made : List Enrolled → ℕ → Member = λ es n. record { account = (get_or es place no_one).account; retention = (get_or es place no_one).retention; days = take n (drop (place * 31) t.cells) } in
    ap (λ (es : List Enrolled). Made es (place * 31 + c.count.result - place * 31)) c.deref.ensures.0 ∙ ap (Made t.members.items) k

below : (c : goal.After-result-1) → c.args.place < length c.self.inside.members.items
below c = omega (arith, count_is c.self.inside c.self.invariant c.args.self.now c.self.view_is)

pub invariant_of-result : goal.invariant_of-result
invariant_of-result c =
    let t = c.self.inside in
    record {
      retained = subst (λ (es : List Enrolled). (get_or es c.args.place no_one).retention ≤ most_retention) (sym c.deref.ensures.0) (c.self.invariant.retained c.args.place);
      small = subst SmallMember (sym (here c)) (small_at t c.self.invariant c.args.place (below c));
    }

pub returns-clause-same : goal.returns-clause-same
returns-clause-same c = here c ∙ member_is c.self.inside c.self.invariant c.args.self.now c.self.view_is c.args.place (below c)

pub returns-clause-small : goal.returns-clause-small
returns-clause-small c = subst SmallMember (sym (here c)) (small_at c.self.inside c.self.invariant c.args.place (below c))
