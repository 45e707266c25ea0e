use Rattle.std.proofs.Common.{◌≡◌, sym, subst, rules}
use Rattle.agreement.specs.Gases.{for_month}
use Rattle.agreement.specs.Limits.{most_month_gas}
use Rattle.agreement.specs.Sizes.{Sized}
use Rattle.agreement.proofs.Sizes.{month_sized}
use Rattle.pool.proofs.table.Table.month_total.Goals as goal

pub total-requires-clause-small : goal.total-requires-clause-small
total-requires-clause-small c row y small gave =
    let same : y ≡ for_month row.now = search rules in
    subst (Sized most_month_gas) (sym same) (month_sized row.now small)
