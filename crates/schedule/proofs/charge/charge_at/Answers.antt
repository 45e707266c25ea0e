use Rattle.std.proofs.Common.{rules}
use Rattle.schedule.proofs.Greatest.{fixed, pooling_saves}
use Rattle.schedule.proofs.charge.charge_at.Goals as goal

pub returns-clause-fixed : goal.returns-clause-fixed
returns-clause-fixed g c =
    let s = c.args.schedule.now in
    fixed _ _ (g.S.Schedule.lines s) _ _ (g.met.S.Schedule.lawful s) (search rules) (search rules)

pub returns-clause-pooling : goal.returns-clause-pooling
returns-clause-pooling g c = pooling_saves (g.S.Schedule.lines c.args.schedule.now)
