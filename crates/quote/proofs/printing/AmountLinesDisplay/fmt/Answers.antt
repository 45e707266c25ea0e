use Rattle.std.proofs.Common.{◌++◌, ap, ◌∙◌, pos, codes, subst, SFits, rules}
use mir.Syntax.{w128}
use Rattle.std.specs.Prelude.{int_lt}
use Rattle.std.specs.Fmt.{WritesOnOk, signed_decimal}
use Rattle.std.proofs.lemmas.Int.{to_z-of_z}
use Rattle.wording.proofs.Exactly.{exact_text}
use Rattle.quote.specs.Texts.{credit_note}
use Rattle.quote.proofs.Printed.{same_amount}
use Rattle.quote.proofs.printing.AmountLinesDisplay.fmt.Goals as goal

pub returns-clause-writes : goal.returns-clause-writes
returns-clause-writes g c =
    let name = c.args.self.now.name.now in
    let f : SFits w128 c.args.self.now.grains = search rules in
    let e = to_z-of_z w128 c.args.self.now.grains f in
    let t = exact_text e c.from-dollars.ensures in
    let n = c.credit_note-credit.ensures ∙ ap credit_note (c.from-dollars.ensures.sign ∙ ap (λ z. int_lt z (pos 0)) e) in
    subst (λ text. WritesOnOk g.W.Write.write_str_gives c.args.f.now c.write.result text c.write.new.self) (same_amount (λ x u m. codes "  " ++ (name ++ (codes " charge: " ++ (signed_decimal x ++ (codes " grains\n  " ++ (name ++ (codes " charge: " ++ (u ++ (m ++ codes "\n"))))))))) _ _ _ _ _ _ e t n) c.write.ensures.writes
