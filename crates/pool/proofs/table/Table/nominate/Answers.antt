use Rattle.std.proofs.Common.{◌+◌, ◌-◌, ◌≤◌, leb, List, sym, refl, ap, ◌∙◌, arith, rules}
use borrow.Rule.Slice.PartMut.{put_mid}
use Rattle.agreement.specs.declared.day.Day.{Day}
use Rattle.agreement.specs.declared.calls.Call.TheVariants.{Nominate}
use Rattle.agreement.specs.Postings.{with_nomination}
use Rattle.agreement.proofs.Accepted.{after_accepted}
use Rattle.pool.proofs.Places.{limits}
use Rattle.pool.proofs.Posted.{Wrote}
use Rattle.pool.proofs.Writing.{cell_below, days_are, kept, place_below, posted_at, with_cells, wrote_from}
use Rattle.pool.proofs.table.Table.nominate.Goals as goal

pub overflow_add-cell : goal.overflow_add-cell
overflow_add-cell c =
    omega (arith, cell_below c.self.inside c.self.invariant c.args.self.now c.self.view_is c.args.posting c.in_ok-cell.cell c.in_ok-cell.ensures, c.count.ensures, c.self.inside.days.most)

pub offset_bounds-self-inside-cell : goal.offset_bounds-self-inside-cell
offset_bounds-self-inside-cell c =
    omega (arith, cell_below c.self.inside c.self.invariant c.args.self.now c.self.view_is c.args.posting c.in_ok-cell.cell c.in_ok-cell.ensures)

pub slice_bounds-nominate_each-end : goal.slice_bounds-nominate_each-end
slice_bounds-nominate_each-end c =
    let t = c.self.inside in
    let p = c.in_ok-cell.ensures in
    let below = place_below t c.self.invariant c.args.self.now c.self.view_is c.args.posting c.in_ok-cell.cell p in
    let days = days_are t c.self.invariant c.args.self.now c.self.view_is c.args.posting c.in_ok-cell.cell p in
    let low : c.in_ok-cell.cell ≤ c.in_ok-cell.cell + (c.count.result - (c.args.posting.day - 1)) = omega arith in
    let high : c.in_ok-cell.cell + (c.count.result - (c.args.posting.day - 1)) ≤ 1240 =
    omega (arith, below, days, p.at, p.from, p.upto, c.count.ensures, t.days.most, c.self.invariant.few) in
    search rules

-- the write changes the posting's day and every later day
wrote : (c : goal.After-nominate_each) → Wrote c.self.inside.cells (put_mid c.in_ok-cell.cell (c.in_ok-cell.cell + (c.count.result - (c.args.posting.day - 1)) - c.in_ok-cell.cell) c.self.inside.cells c.nominate_each.new.days) c.in_ok-cell.ensures.place c.self.inside.days.count (λ n. leb c.args.posting.day n) (with_nomination c.args.posting.therms)
wrote c =
    let t = c.self.inside in
    let p = c.in_ok-cell.ensures in
    let a = c.in_ok-cell.cell in
    let m = c.in_ok-cell.cell + (c.count.result - (c.args.posting.day - 1)) - c.in_ok-cell.cell in
    let below = place_below t c.self.invariant c.args.self.now c.self.view_is c.args.posting a p in
    let days = days_are t c.self.invariant c.args.self.now c.self.view_is c.args.posting a p in
    wrote_from t.cells _ p.place c.args.posting.day t.days.count a m (with_nomination c.args.posting.therms) t.days.most p.from (omega (arith, p.upto, days)) p.at (omega (arith, c.count.ensures))
    (omega (arith, below, days, p.at, p.from, p.upto, c.count.ensures, t.days.most, c.self.invariant.few, c.self.invariant.cells))
    (ap (λ (ds : List Day). put_mid a m t.cells ds) c.nominate_each.ensures)

pub invariant_of-self : goal.invariant_of-self
invariant_of-self c =
    kept c.self.inside c.self.invariant c.args.self.now c.self.view_is c.args.posting c.in_ok-cell.cell c.in_ok-cell.ensures _ (λ n. leb c.args.posting.day n) (with_nomination c.args.posting.therms) (wrote c)
    (λ d h. record { nominated_most = c.in_ok-cell.ensures.small; read_most = h.read_most; received_most = h.received_most })

pub returns-clause-book : goal.returns-clause-book
returns-clause-book c =
    posted_at c.self.inside c.self.invariant c.args.self.now c.self.view_is c.args.posting c.in_ok-cell.cell c.in_ok-cell.ensures _ (λ n. leb c.args.posting.day n) (with_nomination c.args.posting.therms) (wrote c)
    ∙ sym (after_accepted (Nominate c.args.posting) c.args.self.now c.in_ok-cell.ensures.free)

pub returns-in_err-cell-clause-limits : goal.returns-in_err-cell-clause-limits
returns-in_err-cell-clause-limits c = limits c.self.inside c.self.invariant c.args.self.now c.self.view_is

pub returns-clause-limits : goal.returns-clause-limits
returns-clause-limits c = limits (with_cells c.self.inside _) (invariant_of-self c) _ refl
