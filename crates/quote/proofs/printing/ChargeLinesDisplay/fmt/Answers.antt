use Rattle.std.proofs.Common.{◌++◌, codes, subst, w32, SFits, rules}
use mir.Syntax.{w128}
use Rattle.std.specs.Fmt.{WritesOnOk, signed_decimal}
use Rattle.std.proofs.lemmas.Int.{to_z-of_z}
use Rattle.quote.specs.Texts.{amount_lines}
use Rattle.quote.proofs.Printed.{same_charge}
use Rattle.quote.proofs.printing.ChargeLinesDisplay.fmt.Goals as goal

pub returns-clause-writes : goal.returns-clause-writes
returns-clause-writes g c =
    let name = c.args.self.now.name.now in
    let charge = c.args.self.now.charge in
    let fa : SFits w32 charge.line.a = search rules in
    let fb : SFits w32 charge.line.b = search rules in
    let fg : SFits w128 charge.grains = search rules in
    subst (λ text. WritesOnOk g.W.Write.write_str_gives c.args.f.now c.write.result text c.write.new.self) (same_charge (λ a b z. codes "  " ++ (name ++ (codes " line: " ++ (signed_decimal a ++ (codes " of the difference and " ++ (signed_decimal b ++ (codes " of the base, in grains a thousandth of a therm\n" ++ amount_lines name z))))))) _ _ _ _ _ _ (to_z-of_z w32 charge.line.a fa) (to_z-of_z w32 charge.line.b fb) (to_z-of_z w128 charge.grains fg)) c.write.ensures.writes
