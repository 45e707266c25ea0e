use Rattle.std.proofs.Common.{sym, refl, ◌∙◌, arith, lit<}
use Rattle.agreement.specs.declared.calls.Call.TheVariants.{Enrol}
use Rattle.agreement.proofs.Accepted.{after_accepted}
use Rattle.pool.proofs.Enrolling.{enrolled_more, sound_more, with_members}
use Rattle.pool.proofs.Places.{count_is, limits}
use Rattle.pool.proofs.table.Table.enrol.Goals as goal

pub push-requires : goal.push-requires
push-requires c = (lit< tt, omega (arith, count_is c.self.inside c.self.invariant c.args.self.now c.self.view_is, c.in_ok-enrolling.ensures.room))

pub invariant_of-self : goal.invariant_of-self
invariant_of-self c =
    sound_more c.self.inside c.self.invariant c.push.new.self (record { account = c.args.account; retention = c.args.retention }) c.push.ensures.items
    (omega (arith, count_is c.self.inside c.self.invariant c.args.self.now c.self.view_is, c.in_ok-enrolling.ensures.room)) c.in_ok-enrolling.ensures.small

pub returns-clause-book : goal.returns-clause-book
returns-clause-book c =
    enrolled_more c.self.inside c.self.invariant c.args.self.now c.self.view_is c.push.new.self c.args.account c.args.retention c.push.ensures.items
    (omega (arith, count_is c.self.inside c.self.invariant c.args.self.now c.self.view_is, c.in_ok-enrolling.ensures.room))
    ∙ sym (after_accepted (Enrol c.args.account c.args.retention) c.args.self.now c.in_ok-enrolling.ensures.free)

pub returns-in_err-enrolling-clause-limits : goal.returns-in_err-enrolling-clause-limits
returns-in_err-enrolling-clause-limits c = limits c.self.inside c.self.invariant c.args.self.now c.self.view_is

pub returns-clause-limits : goal.returns-clause-limits
returns-clause-limits c = limits (with_members c.self.inside c.push.new.self) (invariant_of-self c) _ refl
