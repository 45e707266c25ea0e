use Rattle.std.proofs.Common.{sym}
use Rattle.tariff.proofs.Joins.{joined_from, joined_out_from}
use Rattle.tariff.proofs.greater_of.GreaterOfSchedule.line_at.Goals as goal

pub returns-then-not-is_in_range : goal.returns-then-not-is_in_range
returns-then-not-is_in_range g c =
    let s = c.args.self.now in
    joined_out_from _ _ (g.P.Schedule.lines s.first) (g.Q.Schedule.lines s.second) _ (g.met.P.Schedule.lawful s.first) (sym c.if-not-is_in_range.ensures) c.line_at-first.ensures

pub returns : goal.returns
returns g c =
    let s = c.args.self.now in
    joined_from _ _ (g.P.Schedule.lines s.first) (g.Q.Schedule.lines s.second) _ _ _ (g.met.P.Schedule.lawful s.first) (g.met.Q.Schedule.lawful s.second) (sym c.if-not-is_in_range.ensures) c.line_at-first.ensures c.line_at.ensures c.or_greater.ensures
