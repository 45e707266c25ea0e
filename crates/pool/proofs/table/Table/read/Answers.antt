use Rattle.std.proofs.Common.{eqb, get_or, set, Some, sym, refl, ◌∙◌, arith}
use Rattle.agreement.specs.declared.calls.Call.TheVariants.{Read}
use Rattle.agreement.specs.Book.{blank}
use Rattle.agreement.specs.Postings.{with_reading}
use Rattle.agreement.proofs.Accepted.{after_accepted}
use Rattle.pool.proofs.Places.{limits}
use Rattle.pool.proofs.Posted.{Wrote}
use Rattle.pool.proofs.Writing.{cell_below, days_are, kept, posted_at, with_cells, wrote_one}
use Rattle.pool.proofs.table.Table.read.Goals as goal

pub offset_bounds-self-inside-cell : goal.offset_bounds-self-inside-cell
offset_bounds-self-inside-cell c = omega (arith, cell_below c.self.inside c.self.invariant c.args.self.now c.self.view_is c.args.posting c.in_ok-cell.cell c.in_ok-cell.ensures)

pub bounds-self-inside-cell : goal.bounds-self-inside-cell
bounds-self-inside-cell c = cell_below c.self.inside c.self.invariant c.args.self.now c.self.view_is c.args.posting c.in_ok-cell.cell c.in_ok-cell.ensures

-- the write changes the posting's day alone
wrote : (c : goal.After-self-1) → Wrote c.self.inside.cells (set c.self.inside.cells c.in_ok-cell.cell (with_reading (Some c.args.posting.therms) (get_or c.self.inside.cells c.in_ok-cell.cell blank))) c.in_ok-cell.ensures.place c.self.inside.days.count (λ n. eqb c.args.posting.day n) (with_reading (Some c.args.posting.therms))
wrote c =
    let t = c.self.inside in
    let p = c.in_ok-cell.ensures in
    let below = cell_below t c.self.invariant c.args.self.now c.self.view_is c.args.posting c.in_ok-cell.cell p in
    let days = days_are t c.self.invariant c.args.self.now c.self.view_is c.args.posting c.in_ok-cell.cell p in
    wrote_one t.cells p.place c.args.posting.day t.days.count c.in_ok-cell.cell (with_reading (Some c.args.posting.therms)) t.days.most p.from (omega (arith, p.upto, days)) p.at (omega (arith, below, c.self.invariant.cells))

pub invariant_of-self : goal.invariant_of-self
invariant_of-self c =
    kept c.self.inside c.self.invariant c.args.self.now c.self.view_is c.args.posting c.in_ok-cell.cell c.in_ok-cell.ensures _ (λ n. eqb c.args.posting.day n) (with_reading (Some c.args.posting.therms)) (wrote c)
    (λ d h. record { nominated_most = h.nominated_most; read_most = c.in_ok-cell.ensures.small; received_most = h.received_most })

pub returns-clause-book : goal.returns-clause-book
returns-clause-book c =
    posted_at c.self.inside c.self.invariant c.args.self.now c.self.view_is c.args.posting c.in_ok-cell.cell c.in_ok-cell.ensures _ (λ n. eqb c.args.posting.day n) (with_reading (Some c.args.posting.therms)) (wrote c)
    ∙ sym (after_accepted (Read c.args.posting) c.args.self.now c.in_ok-cell.ensures.free)

pub returns-in_err-cell-clause-limits : goal.returns-in_err-cell-clause-limits
returns-in_err-cell-clause-limits c = limits c.self.inside c.self.invariant c.args.self.now c.self.view_is

pub returns-clause-limits : goal.returns-clause-limits
returns-clause-limits c = limits (with_cells c.self.inside _) (invariant_of-self c) _ refl
