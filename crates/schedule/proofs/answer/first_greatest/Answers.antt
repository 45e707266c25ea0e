use Rattle.std.proofs.Common.{◌<◌, ◌≤◌, length, get_or, pos, sym, ap, ◌∙◌, arith, take_all, rules}
use Rattle.std.proofs.lemmas.List.Sums.{fold_more}
use Rattle.schedule.specs.Lines.{line}
use Rattle.schedule.proofs.Scan.{kept, answer_scan, answer_first, answer_none}
use Rattle.schedule.proofs.answer.first_greatest.Goals as goal

pub returns-in_default : goal.returns-in_default
returns-in_default c =
    let h : length c.args.lines.now < 1 = search rules in
    sym (answer_none _ _ c.args.lines.now h)

pub loop-line-preserved : goal.loop-line-preserved
loop-line-preserved c = grind (arith, fold_more)

pub returns-after-loop-line : goal.returns-after-loop-line
returns-after-loop-line c =
    let given = c.args.lines.now in
    let d = c.args.gas.difference in
    let m = c.args.gas.base in
    let h : 1 ≤ length given = search rules in
    c.loop-line.invariant ∙ ap (kept d m (get_or given 0 (line (pos 0) (pos 0)))) (take_all _ _ c.loop-line-test.false) ∙ sym (answer_scan d m given _ h (sym c.if-is_in_range.ensures))

pub returns-else-is_in_range : goal.returns-else-is_in_range
returns-else-is_in_range c =
    let h : 1 ≤ length c.args.lines.now = search rules in
    sym (answer_first _ _ c.args.lines.now _ h (sym c.if-is_in_range.ensures))
