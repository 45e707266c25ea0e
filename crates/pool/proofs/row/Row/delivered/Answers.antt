use Rattle.std.proofs.Common.{◌≡◌, ◌*◌, subst, arith, rules}
use Rattle.agreement.specs.Gases.{delivered_gas}
use Rattle.agreement.specs.Sizes.{SmallMember}
use Rattle.agreement.proofs.Sizes.{delivered_most}
use Rattle.pool.proofs.row.Row.delivered.Goals as goal

pub overflow_mul-result : goal.overflow_mul-result
overflow_mul-result c =
    let same : 1000 * c.sum-read.result ≡ delivered_gas c.args.self.now = search rules in
    omega (arith, delivered_most c.args.self.now (subst SmallMember c.self.view_is c.self.invariant.small))

pub returns-clause-most : goal.returns-clause-most
returns-clause-most c =
    let same : 1000 * c.sum-read.result ≡ delivered_gas c.args.self.now = search rules in
    omega (arith, delivered_most c.args.self.now (subst SmallMember c.self.view_is c.self.invariant.small))
