use Rattle.std.proofs.Common.{◌≡◌, ◌-◌, Bool, List, length, take, None, sym, refl, ap, ◌∙◌, true, false}
use Rattle.std.proofs.lemmas.List.{length-set}
use Rattle.agreement.specs.declared.calls.Call.TheVariants.{Notify}
use Rattle.agreement.specs.Book.{Book, is_closed}
use Rattle.agreement.specs.Months.{has_day}
use Rattle.agreement.specs.Calls.{accepted, refusal}
use Rattle.agreement.proofs.Accepted.{after_accepted}
use Rattle.pool.specs.Contents.{book_of}
use Rattle.pool.proofs.Lists.{take_set_at}
use Rattle.pool.proofs.Places.{limits, limits_kept}
use Rattle.pool.proofs.table.Table.notify.Goals as goal

pub returns-clause-book : goal.returns-clause-book
returns-clause-book c =
    let t = c.self.inside in
    let call = Notify c.args.day in
    let open_yet : is_closed c.args.self.now.status ≡ false = sym c.if-is_closed.ensures in
    let known : has_day c.args.day c.args.self.now.days ≡ true = ap (λ (b : Book). has_day c.args.day b.days) (sym c.self.view_is) ∙ sym c.if-not-has.ensures in
    let free : refusal (Notify c.args.day) c.args.self.now ≡ None = simp (open_yet, known) in
    ap (λ (notices : List Bool). record { days = t.days.count; members = (book_of t).members; notices = notices; status = t.status }) (take_set_at t.days.count t.notices (c.args.day - 1) true)
    ∙ ap (accepted call) c.self.view_is
    ∙ sym (after_accepted call c.args.self.now free)

pub returns-then-is_closed-clause-limits : goal.returns-then-is_closed-clause-limits
returns-then-is_closed-clause-limits c = limits c.self.inside c.self.invariant c.args.self.now c.self.view_is

pub returns-then-not-has-clause-limits : goal.returns-then-not-has-clause-limits
returns-then-not-has-clause-limits c = limits c.self.inside c.self.invariant c.args.self.now c.self.view_is

pub returns-clause-limits : goal.returns-clause-limits
returns-clause-limits c =
    let t = c.self.inside in
    let k = ap (λ (notices : List Bool). length notices) (take_set_at t.days.count t.notices (c.args.day - 1) true) in
    limits_kept (book_of t) _ refl refl (sym (k ∙ length-set (take t.days.count t.notices) (c.args.day - 1) true)) (limits t c.self.invariant (book_of t) refl)
