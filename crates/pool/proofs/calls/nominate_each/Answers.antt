use Rattle.std.proofs.Common.{get_or, arith}
use Rattle.std.proofs.lemmas.List.{get_or_default}
use Rattle.std.proofs.lemmas.List.Edits.{map_over_more}
use Rattle.agreement.specs.Book.{blank}
use Rattle.agreement.specs.Postings.{with_nomination}
use Rattle.pool.proofs.calls.nominate_each.Goals as goal

pub loop-day-preserved : goal.loop-day-preserved
loop-day-preserved c =
    let days = c.loop-day.day-items in
    let i = c.loop-day.day-index in
    map_over_more (with_nomination c.args.therms) c.args.days.now days i (get_or days i blank) (omega arith) c.loop-day.invariant (get_or_default days i blank _ (omega (arith, c.loop-day.auto.day-items)))
