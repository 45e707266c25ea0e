use Rattle.std.proofs.Common.{◌≡◌, ◌*◌, take}
use Rattle.schedule.specs.declared.gas.Gas.{Gas}
use Rattle.agreement.specs.Book.{Member}
use Rattle.agreement.specs.Gases.{total}
use Rattle.agreement.specs.Limits.{most_month_gas}
use Rattle.agreement.specs.Sizes.{Sized}
use Rattle.pool.proofs.table.Table.total.Given as goal

-- the sum is that of the members below
abbrev pub invariant-loop-place : goal.invariant-loop-place
invariant-loop-place g l =
    Sized (l.place * most_month_gas) l.sum
    × ((of : Member → Gas) → ((row : _) (y : Gas) → goal.F-post g l.gas row y → y ≡ of row.now) → l.sum ≡ total of (take l.place l.self.members))
