use Rattle.std.proofs.Common.{◌-◌, ◌<◌, subst, sym, lit<}
use Rattle.std.proofs.Math.Nat.{one-le-pow}
use Rattle.wording.proofs.dollars.+write_places.Goals as goal

pub nonzero_div-digit : goal.nonzero_div-digit
nonzero_div-digit g t c =
    subst (λ x. 0 < x) (sym c.pow-unit.ensures) (one-le-pow (c.args.places - 1) 10 (lit< tt))

pub nonzero_rem-rest : goal.nonzero_rem-rest
nonzero_rem-rest g t c =
    subst (λ x. 0 < x) (sym c.pow-unit.ensures) (one-le-pow (c.args.places - 1) 10 (lit< tt))
