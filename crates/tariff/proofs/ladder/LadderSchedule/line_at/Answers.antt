use Rattle.std.proofs.Common.{sym, ap, ◌∙◌}
use Rattle.schedule.specs.Answers.{answer}
use Rattle.tariff.specs.declared.ladder.Bands.{Bands}
use Rattle.tariff.specs.BandLines.{ladder_lines}
use Rattle.tariff.proofs.ladder.LadderSchedule.line_at.Goals as goal

pub returns-in-Six : goal.returns-in-Six
returns-in-Six c =
    let s = c.args.self.now in
    let gas = c.args.gas in
    c.first_greatest_of.ensures ∙ ap (λ (b : Bands). answer gas.difference gas.base (ladder_lines b s.average s.lowest)) (sym c.in-Six.is)
