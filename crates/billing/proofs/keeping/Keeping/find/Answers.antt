use Rattle.std.proofs.Common.{Ok, sym, ap, ◌∙◌, arith}
use Rattle.std.proofs.lemmas.List.{get_or-take, length-take-le}
use Rattle.billing.specs.Keepings.{kept, lent}
use Rattle.billing.proofs.Search.{found_at, none_found}
use Rattle.billing.proofs.keeping.Keeping.find.Goals as goal

pub returns-in-Ok : goal.returns-in-Ok
returns-in-Ok g c =
    let k = c.args.self.now in
    let at = c.in-Ok.ensures.found in
    let read = get_or-take k.len (lent k) c.in-Ok.place c.index-self-place.result (omega (arith, at.in_range, length-take-le k.len (lent k) k.fits)) in
    ap Ok (sym read) ∙ sym (found_at g.R.Numbered.numbered c.args.number (kept k) _ _ k.rises at)

pub returns-in-Err : goal.returns-in-Err
returns-in-Err g c = sym (none_found g.R.Numbered.numbered c.args.number (kept c.args.self.now) _ c.in-Err.ensures.absent)
