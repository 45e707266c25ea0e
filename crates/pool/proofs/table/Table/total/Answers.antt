use Rattle.std.proofs.Common.{◌+◌, ◌*◌, ◌<◌, length, take, ap, ◌∙◌, sym, subst, arith}
use Rattle.schedule.specs.declared.gas.Gas.{Gas}
use Rattle.agreement.specs.Gases.{together, total}
use Rattle.agreement.specs.Limits.{most_month_gas}
use Rattle.agreement.specs.Sizes.{Sized}
use Rattle.pool.proofs.Summed.{total_more, sized_more, sized_within}
use Rattle.pool.proofs.table.Table.total.Goals as goal

pub loop-place-preserved : goal.loop-place-preserved
loop-place-preserved g c =
    let i = c.loop-place.place in
    let ms = c.args.self.now.members in
    let sum = c.loop-place.sum in
    let one = c.gas.result in
    let lt : c.loop-place.place < length c.args.self.now.members = omega (arith, c.count-place-end.ensures.same) in
    let small = c.requires.small _ c.gas.result c.row.ensures.small c.gas.ensures in (
      subst (Sized ((i + 1) * most_month_gas)) (sym c.together-sum.ensures) (sized_within (i * most_month_gas + most_month_gas) ((i + 1) * most_month_gas) (together sum one) (omega arith) (sized_more (i * most_month_gas) most_month_gas sum one c.loop-place.invariant.0 small)),
      (λ of gives.
          c.together-sum.ensures
          ∙ ap (λ (x : Gas). together x one) (c.loop-place.invariant.1 of gives)
          ∙ ap (together (total of (take i ms))) (gives _ one c.gas.ensures ∙ ap of c.row.ensures.same)
          ∙ sym (total_more of ms i lt)),
    )
