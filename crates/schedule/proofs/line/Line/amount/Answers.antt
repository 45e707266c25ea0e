use Rattle.std.proofs.Common.{◌^◌, ◌<◌, ◌∙◌, w32, w64, SFits, rules}
use Rattle.std.proofs.lemmas.Int.{to_z-of_z}
use Rattle.schedule.proofs.Products.{widened64, widened, same_product, summed}
use Rattle.schedule.proofs.line.Line.amount.Goals as goal

pub returns : goal.returns
returns c =
    let a : SFits w32 c.args.self.a = search rules in
    let b : SFits w32 c.args.self.b = search rules in
    let d : SFits w64 c.args.gas.difference = search rules in
    let m : c.args.gas.base < 2 ^ 64 = search rules in
    let p = c.times.ensures.value ∙ same_product _ _ _ _ (to_z-of_z w32 c.args.self.a a) (widened64 c.args.gas.difference d) in
    let q = c.times-2.ensures.value ∙ same_product _ _ _ _ (to_z-of_z w32 c.args.self.b b) (widened c.args.gas.base m) in
    summed c.times.result c.times-2.result _ _ c.times.ensures.bound c.times-2.ensures.bound p q
