use Rattle.std.proofs.Common.{◌++◌, codes, subst, SFits, rules}
use mir.Syntax.{w128}
use Rattle.std.specs.Fmt.{WritesOnOk}
use Rattle.std.proofs.lemmas.Int.{to_z-of_z}
use Rattle.quote.specs.Texts.{gas_text, charge_lines, amount_lines}
use Rattle.quote.proofs.printing.DayAccountDisplay.fmt.Goals as goal

pub returns-in-None-clause-writes : goal.returns-in-None-clause-writes
returns-in-None-clause-writes g c =
    let q = c.args.self.now in
    let f : SFits w128 q.total = search rules in
    rw c.in-None.is (subst (λ z. WritesOnOk g.W.Write.write_str_gives c.args.f.now c.write.result (gas_text (codes "above the nomination") (codes "below the nomination") q.gas ++ (charge_lines (codes "balancing") q.balancing ++ amount_lines (codes "whole") z)) c.write.new.self) (to_z-of_z w128 q.total f) c.write.ensures.writes)

pub returns-in-Some-clause-writes : goal.returns-in-Some-clause-writes
returns-in-Some-clause-writes g c =
    let q = c.args.self.now in
    let f : SFits w128 q.total = search rules in
    rw c.in-Some.is (subst (λ z. WritesOnOk g.W.Write.write_str_gives c.args.f.now c.write-in-Some.result (gas_text (codes "above the nomination") (codes "below the nomination") q.gas ++ (charge_lines (codes "balancing") q.balancing ++ (charge_lines (codes "overrun") c.in-Some.charge ++ amount_lines (codes "whole") z))) c.write-in-Some.new.self) (to_z-of_z w128 q.total f) c.write-in-Some.ensures.writes)
