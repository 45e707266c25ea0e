use Rattle.std.proofs.Common.{rules}
use Rattle.pool.specs.Fixing.{Fixes, terms_of}
use Rattle.pool.proofs.Questioned.{are_limited}
use Rattle.pool.proofs.book.PoolBook.fixing_lines.Goals as goal

pub returns-clause-limited : goal.returns-clause-limited
returns-clause-limited g c =
    let s = c.args.self.now.schedules in
    let fixes : Fixes (record { month = c.line_at.result; days = c.day_lines.result }) (terms_of g.M.Schedule.lines g.D.Schedule.lines g.O.Schedule.lines c.args.self.now.schedules) c.args.self.now.table = search rules in
    are_limited _ _ _ fixes (g.met.M.Schedule.lawful s.month) (g.met.D.Schedule.lawful s.day) (g.met.O.Schedule.lawful s.overrun)
