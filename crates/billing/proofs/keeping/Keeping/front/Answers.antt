use Rattle.std.proofs.Common.{◌≡◌, ◌≤◌, ◌<◌, ◌-◌, length, subst, arith}
use Rattle.billing.specs.Places.{AllAbove}
use Rattle.billing.proofs.Search.{past_front}
use Rattle.billing.proofs.keeping.Keeping.front.Goals as goal
use Rattle.billing.proofs.keeping.Keeping.front.Goals.{then-loop-end-test+else-number, else-loop-end-test}

-- the doubling stops behind a record that is not below the number, or at the end
pub returns-clause-reaches : goal.returns-clause-reaches
returns-clause-reaches g c =
    let f = g.R.Numbered.numbered in
    let xs = c.records-records.result.now in
    let all = c.records-records.ensures.all in
    subst (AllAbove f c.args.number c.min.result) all
    (elim c.loop-end-test.branch [
      | then-loop-end-test+else-number w ↦
          let few = w.loop-end-test.true in
          let high : c.args.number ≤ f w.index-records-end.result = omega (arith, w.if-number.false, w.number.ensures) in
          let past = past_front f c.args.number c.loop-end.end xs w.index-records-end.result c.records-records.ensures.rises c.loop-end.invariant few w.index-records-end.is high in
          λ j d l m. past j d (omega (arith, few, c.min.ensures, l)) m
      | else-loop-end-test w ↦ λ j d l m. absurd (omega (arith, w.loop-end-test.false, c.min.ensures, l, m))
    ])
