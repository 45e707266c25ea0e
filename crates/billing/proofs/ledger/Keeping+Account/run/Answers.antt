use Rattle.std.proofs.Common.{◌≡◌, ◌<◌, ◌++◌, length, take, drop, ◌+ℤ◌, sym, ap, ◌∙◌, subst, arith}
use Rattle.std.proofs.lemmas.List.{length-take-le, take_all}
use Rattle.billing.specs.Keepings.{kept, Leaves}
use Rattle.billing.specs.Accounts.{balance_of, WithinLimit}
use Rattle.billing.specs.Runs.{answers, after_all, sum_added}
use Rattle.billing.proofs.Balances.{leaves_more, answers_more, balance_adds_up, sum_of_front}
use Rattle.billing.proofs.Within.{run_within}
use Rattle.billing.proofs.ledger.Keeping+Account.run.Goals as goal

pub loop-i-preserved : goal.loop-i-preserved
loop-i-preserved c =
    let cs = take c.min-count.result c.args.calls.now in
    let xs = kept c.args.self.now in
    let i = c.loop-i.i in
    let k = c.loop-i.self in
    let less : i < length cs = omega (arith, c.loop-i-test.true, c.min-count.ensures, length-take-le c.min-count.result c.args.calls.now (omega (arith, c.min-count.ensures))) in
    let fits : i < length c.args.answers.now = omega (arith, c.loop-i-test.true, c.min-count.ensures, length-take-le c.min-count.result c.args.calls.now (omega (arith, c.min-count.ensures))) in (
      leaves_more cs xs i _ less c.args.self.now k c.enter.new.self c.loop-i.invariant.0 c.enter.ensures.leaves,
      answers_more cs xs i _ less k c.args.answers.now c.loop-i.answers c.enter.result fits c.loop-i.invariant.0.keeps c.loop-i.invariant.1 c.enter.ensures.answer,
    )

-- all of them are
pub returns : goal.returns
returns c =
    let cs = take c.min-count.result c.args.calls.now in
    let xs = kept c.args.self.now in
    let m = c.min-count.result in
    let long : length cs ≡ m = length-take-le m c.args.calls.now (omega (arith, c.min-count.ensures)) in
    let here : c.loop-i.i ≡ m = omega (arith, c.loop-i.auto.i-end, c.loop-i-test.false, long) in
    let all : take c.loop-i.i cs ≡ cs = take_all c.loop-i.i cs (omega (arith, here, long)) in
    let list : c.loop-i.answers ≡ answers cs xs ++ drop m c.args.answers.now = c.loop-i.invariant.1 ∙ ap (λ ps. answers ps xs ++ drop c.loop-i.i c.args.answers.now) all ∙ ap (λ i. answers cs xs ++ drop i c.args.answers.now) here in
    let l : Leaves c.args.self.now c.loop-i.self (after_all cs xs) = subst (λ ps. Leaves c.args.self.now c.loop-i.self (after_all ps xs)) all c.loop-i.invariant.0 in
    record {
      count = c.min-count.ensures;
      answers = list;
      leaves = l;
      sums = λ n. ap (balance_of n) l.keeps ∙ balance_adds_up n cs xs ∙ ap (λ s. balance_of n xs +ℤ s) (sym (sum_of_front n cs xs (drop m c.args.answers.now)) ∙ ap (sum_added n cs) (sym list));
      within = λ w. subst WithinLimit (sym l.keeps) (run_within cs xs w);
    }
