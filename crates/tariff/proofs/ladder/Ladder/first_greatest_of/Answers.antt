use Rattle.std.proofs.Common.{◌≡◌, ◌≤◌, ◌++◌, [], ◌∷◌, List, length, length-set, map, take, sym, ap, ◌∙◌, arith, rules}
use Rattle.std.proofs.lemmas.List.{map-append, take_all, take_more, take_more_set}
use Rattle.schedule.specs.declared.line.Line.{Line}
use Rattle.schedule.specs.Answers.{answer}
use Rattle.tariff.specs.declared.ladder.BandLine.TheVariants.{Short}
use Rattle.tariff.specs.BandLines.{line_of}
use Rattle.tariff.proofs.ladder.Ladder.first_greatest_of.Goals as goal

pub loop-i-preserved : goal.loop-i-preserved
loop-i-preserved g c =
    let s = c.args.self.now in
    let f = line_of s.average s.lowest in
    let i = c.loop-i.i in
    let bands = c.args.bands in
    let many : length bands ≡ g.row.N = search rules in (
      length-set c.loop-i.lines i c.line_of.result ∙ c.loop-i.invariant.0,
      take_more_set c.loop-i.lines i c.line_of.result (omega (arith, c.loop-i.invariant.0, c.loop-i-test.true))
          ∙ ap (λ (ls : List Line). ls ++ c.line_of.result ∷ []) c.loop-i.invariant.1
          ∙ ap (λ (l : Line). map f (take i bands) ++ l ∷ []) c.line_of.ensures
          ∙ sym (ap (map f) (take_more bands i (Short 0 0) (omega (arith, many, c.loop-i-test.true))) ∙ map-append f (take i bands) _),
    )

pub returns : goal.returns
returns g c =
    let s = c.args.self.now in
    let f = line_of s.average s.lowest in
    let bands = c.args.bands in
    let many : length bands ≡ g.row.N = search rules in
    let all = sym (take_all c.loop-i.i c.loop-i.lines (omega (arith, c.loop-i.invariant.0, c.loop-i-test.false))) ∙ c.loop-i.invariant.1 ∙ ap (map f) (take_all c.loop-i.i bands (omega (arith, many, c.loop-i-test.false))) in
    c.first_greatest.ensures ∙ ap (answer c.args.gas.difference c.args.gas.base) all
