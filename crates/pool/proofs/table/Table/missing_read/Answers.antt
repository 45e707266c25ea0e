use Rattle.std.proofs.Common.{sym, ◌∙◌, arith}
use Rattle.pool.proofs.Missing.{is_missing, is_whole, all_whole}
use Rattle.pool.proofs.table.Table.missing_read.Goals as goal

pub returns-in-Some : goal.returns-in-Some
returns-in-Some c =
    sym (is_missing c.args.self.now.members c.loop-place.place c.row.result (omega (arith, c.count-place-end.ensures.same)) c.row.ensures.same c.in-Some.day c.in-Some.ensures) ∙ c.loop-place.invariant

pub loop-place-preserved : goal.loop-place-preserved
loop-place-preserved c =
    sym (is_whole c.args.self.now.members c.loop-place.place c.row.result (omega (arith, c.count-place-end.ensures.same)) c.row.ensures.same c.in_default.ensures) ∙ c.loop-place.invariant

pub returns : goal.returns
returns c = sym (all_whole c.args.self.now.members c.loop-place.place (omega (arith, c.count-place-end.ensures.same))) ∙ c.loop-place.invariant
