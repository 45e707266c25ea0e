use Rattle.std.proofs.Common.{◌≡◌, ◌<◌, take, set, Err, sym, refl, subst, arith}
use Rattle.std.proofs.lemmas.List.{length-take-le, drop-set-lt}
use Rattle.std.proofs.Math.Seq.{take-set-lt}
use Rattle.billing.specs.declared.refusals.Refusal.TheVariants.{NoSuchNumber}
use Rattle.billing.specs.Order.{Rising}
use Rattle.billing.specs.Places.{IsAt}
use Rattle.billing.specs.Keepings.{found, kept, lent, after_change}
use Rattle.billing.proofs.Search.{found_at, none_found, replaced_at, set_rises}
use Rattle.billing.proofs.Memory.{leaves_by, stays}
use Rattle.billing.proofs.keeping.Keeping.change.Given as given
use Rattle.billing.proofs.keeping.Keeping.change.Goals as goal
use Rattle.billing.proofs.keeping.Keeping.change.Goals.{In_default, In-Ok}

-- no record has the number
missing : (g : given.Over) (c : In_default g) → found g.R.Numbered.numbered (g.R.Numbered.numbered c.args.changed) (kept c.args.self.now) ≡ Err NoSuchNumber
missing g c = none_found g.R.Numbered.numbered _ _ c.in_default.field-0 (rw (← c.number.ensures) c.in_default.ensures.absent)

pub returns-in_default-clause-answer : goal.returns-in_default-clause-answer
returns-in_default-clause-answer g c = rw (missing g c)

pub returns-in_default-clause-leaves : goal.returns-in_default-clause-leaves
returns-in_default-clause-leaves g c = stays c.args.self.now _ (rw (missing g c))

-- the record with the number stands at the place, and is written over in the list that is kept
module _ (g : given.Over) (c : In-Ok g) where
  there : IsAt g.R.Numbered.numbered (g.R.Numbered.numbered c.args.changed) (kept c.args.self.now) c.in-Ok.place
  there = rw (← c.number.ensures) c.in-Ok.ensures.found

  inside : c.in-Ok.place < c.args.self.now.len
  inside = omega (arith, there.in_range, length-take-le c.args.self.now.len (lent c.args.self.now) c.args.self.now.fits)

  written : take c.args.self.now.len (set (lent c.args.self.now) c.in-Ok.place c.args.changed) ≡ set (kept c.args.self.now) c.in-Ok.place c.args.changed
  written = take-set-lt _ _ _ _ inside

pub invariant_of-self-clause-rises : goal.invariant_of-self-clause-rises
invariant_of-self-clause-rises g c =
    let d = (goal.at.invariant_of-self-clause-rises g c).In-Ok in
    subst (Rising g.R.Numbered.numbered) (sym (written g d)) (set_rises g.R.Numbered.numbered c.args.changed _ _ (there g d) c.args.self.now.rises)

pub returns-clause-answer : goal.returns-clause-answer
returns-clause-answer g c =
    let d = (goal.at.returns-clause-answer g c).In-Ok in
    rw (found_at g.R.Numbered.numbered _ _ _ c.args.changed c.args.self.now.rises (there g d))

pub returns-clause-leaves : goal.returns-clause-leaves
returns-clause-leaves g c =
    let k = c.args.self.now in
    let d = (goal.at.returns-clause-leaves g c).In-Ok in
    let list : take k.len (set (lent k) c.in-Ok.place c.args.changed) ≡ after_change g.R.Numbered.numbered c.args.changed (kept k) = rw (found_at g.R.Numbered.numbered _ _ _ c.args.changed k.rises (there g d), replaced_at g.R.Numbered.numbered c.args.changed _ _ k.rises (there g d)) (written g d) in
    leaves_by k _ _ list (drop-set-lt k.len (lent k) c.in-Ok.place c.args.changed (inside g d)) refl
