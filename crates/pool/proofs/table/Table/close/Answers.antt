use Rattle.std.proofs.Common.{refl}
use Rattle.pool.specs.Contents.{book_of}
use Rattle.pool.proofs.Places.{limits, limits_kept}
use Rattle.pool.proofs.table.Table.close.Goals as goal

pub returns-in_err-closing-clause-limits : goal.returns-in_err-closing-clause-limits
returns-in_err-closing-clause-limits c = limits c.self.inside c.self.invariant c.args.self.now c.self.view_is

pub returns-clause-limits : goal.returns-clause-limits
returns-clause-limits c = limits_kept (book_of c.self.inside) _ refl refl refl (limits c.self.inside c.self.invariant (book_of c.self.inside) refl)
