use Rattle.std.proofs.Common.{◌≡◌, ◌+◌, ◌-◌, ◌<◌, ◌≤◌, ◌++◌, length, take, drop, set, leb, true, false, is_ok, Err, sym, refl, ap, ◌∙◌, subst, arith, le-leb}
use borrow.Author.Tests.{lt-leb}
use borrow.Rule.Slice.PartMut.{put_mid}
use Rattle.std.specs.List.{insert}
use Rattle.std.proofs.lemmas.List.{length-take-le}
use Rattle.billing.specs.declared.refusals.Refusal.TheVariants.{NoSuchNumber}
use Rattle.billing.specs.Order.{Rising}
use Rattle.billing.specs.Places.{IsGapFor}
use Rattle.billing.specs.Keepings.{found, kept, lent, room, after_adding}
use Rattle.billing.proofs.Search.{found_at, none_found, in_order_at, insert_rises}
use Rattle.billing.proofs.Shift.{turned_in, front_of, back_of}
use Rattle.billing.proofs.Memory.{leaves_by, stays}
use Rattle.billing.proofs.keeping.Keeping.add.Given as given
use Rattle.billing.proofs.keeping.Keeping.add.Goals as goal
use Rattle.billing.proofs.keeping.Keeping.add.Goals.{In_default, In-Err, After-rotate_right}

-- a record has the number
used : (g : given.Over) (c : In_default g) → is_ok (found g.R.Numbered.numbered (g.R.Numbered.numbered c.args.newcomer) (kept c.args.self.now)) ≡ true
used g c = ap is_ok (found_at g.R.Numbered.numbered (g.R.Numbered.numbered c.args.newcomer) (kept c.args.self.now) c.in_default.field-0 c.args.newcomer c.args.self.now.rises (rw (← c.number.ensures) c.in_default.ensures.found))

pub returns-in_default-clause-answer : goal.returns-in_default-clause-answer
returns-in_default-clause-answer g c = rw (used g c)

pub returns-in_default-clause-leaves : goal.returns-in_default-clause-leaves
returns-in_default-clause-leaves g c = stays c.args.self.now _ (rw (used g c))

-- no record has it, and there is a gap for it
gap : (g : given.Over) (c : In-Err g) → IsGapFor g.R.Numbered.numbered (g.R.Numbered.numbered c.args.newcomer) (kept c.args.self.now) c.in-Err.place
gap g c = rw (← c.number.ensures) c.in-Err.ensures.absent

unused : (g : given.Over) (c : In-Err g) → found g.R.Numbered.numbered (g.R.Numbered.numbered c.args.newcomer) (kept c.args.self.now) ≡ Err NoSuchNumber
unused g c = none_found g.R.Numbered.numbered _ _ _ (gap g c)

many : (g : given.Over) (c : In-Err g) → length (kept c.args.self.now) ≡ c.args.self.now.len
many g c = length-take-le c.args.self.now.len (lent c.args.self.now) c.args.self.now.fits

pub returns-then-len-self-clause-answer : goal.returns-then-len-self-clause-answer
returns-then-len-self-clause-answer g c =
    let d = (goal.at.returns-then-len-self-clause-answer g c).In-Err in
    let full = le-leb (room c.args.self.now) (length (kept c.args.self.now)) (omega (arith, many g d, c.if-len-self.true)) in
    rw (unused g d, full)

-- after the rotation the newcomer stands in the gap
module _ (g : given.Over) (c : After-rotate_right g) (h : IsGapFor g.R.Numbered.numbered (g.R.Numbered.numbered c.args.newcomer) (kept c.args.self.now) c.in-Err.place) where
  inside : c.args.self.now.len < room c.args.self.now
  inside = omega (arith, c.args.self.now.fits, c.if-len-self.false)

  low : c.in-Err.place ≤ c.args.self.now.len
  low = omega (arith, h.in_range, length-take-le c.args.self.now.len (lent c.args.self.now) c.args.self.now.fits)

  put : put_mid c.in-Err.place (c.args.self.now.len + 1 - c.in-Err.place) (set (lent c.args.self.now) c.args.self.now.len c.args.newcomer) c.rotate_right.new.self ≡ insert (kept c.args.self.now) c.in-Err.place c.args.newcomer ++ drop (c.args.self.now.len + 1) (lent c.args.self.now)
  put = rw c.rotate_right.ensures.after (turned_in c.in-Err.place c.args.self.now.len (lent c.args.self.now) c.args.newcomer low inside)

  front : take (c.args.self.now.len + 1) (put_mid c.in-Err.place (c.args.self.now.len + 1 - c.in-Err.place) (set (lent c.args.self.now) c.args.self.now.len c.args.newcomer) c.rotate_right.new.self) ≡ insert (kept c.args.self.now) c.in-Err.place c.args.newcomer
  front = ap (take (c.args.self.now.len + 1)) put ∙ front_of c.in-Err.place c.args.self.now.len (lent c.args.self.now) c.args.newcomer low inside

  back : drop (c.args.self.now.len + 1) (put_mid c.in-Err.place (c.args.self.now.len + 1 - c.in-Err.place) (set (lent c.args.self.now) c.args.self.now.len c.args.newcomer) c.rotate_right.new.self) ≡ drop (c.args.self.now.len + 1) (lent c.args.self.now)
  back = ap (drop (c.args.self.now.len + 1)) put ∙ back_of c.in-Err.place c.args.self.now.len (lent c.args.self.now) c.args.newcomer low inside

  open_place : leb (room c.args.self.now) (length (kept c.args.self.now)) ≡ false
  open_place = lt-leb _ _ (omega (arith, inside, length-take-le c.args.self.now.len (lent c.args.self.now) c.args.self.now.fits))

pub invariant_of-self-2-clause-rises : goal.invariant_of-self-2-clause-rises
invariant_of-self-2-clause-rises g c =
    let d = goal.at.invariant_of-self-2-clause-rises g c in
    let h = gap g d.In-Err in
    subst (Rising g.R.Numbered.numbered) (sym (front g d.After-rotate_right h)) (insert_rises g.R.Numbered.numbered c.args.newcomer (kept c.args.self.now) c.in-Err.place h c.args.self.now.rises)

pub returns-clause-answer : goal.returns-clause-answer
returns-clause-answer g c =
    let d = goal.at.returns-clause-answer g c in
    rw (unused g d.In-Err, open_place g d.After-rotate_right (gap g d.In-Err))

pub returns-clause-leaves : goal.returns-clause-leaves
returns-clause-leaves g c =
    let k = c.args.self.now in
    let d = goal.at.returns-clause-leaves g c in
    let h = gap g d.In-Err in
    let list : insert (kept k) c.in-Err.place c.args.newcomer ≡ after_adding g.R.Numbered.numbered (room k) c.args.newcomer (kept k) = rw (unused g d.In-Err, open_place g d.After-rotate_right h, in_order_at g.R.Numbered.numbered c.args.newcomer (kept k) c.in-Err.place h) in
    leaves_by k _ _ (front g d.After-rotate_right h ∙ list) (back g d.After-rotate_right h) refl
