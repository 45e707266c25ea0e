use Rattle.std.proofs.Common.{◌∙◌}
use Rattle.pool.proofs.Places.{count_is, limits}
use Rattle.pool.proofs.table.Table.count.Goals as goal

pub returns-clause-same : goal.returns-clause-same
returns-clause-same c = c.len.ensures.value ∙ count_is c.self.inside c.self.invariant c.args.self.now c.self.view_is

pub returns-clause-limits : goal.returns-clause-limits
returns-clause-limits c = limits c.self.inside c.self.invariant c.args.self.now c.self.view_is
