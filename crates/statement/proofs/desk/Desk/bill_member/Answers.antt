use Rattle.std.proofs.Common.{Err, sym, refl, ap, ◌∙◌, subst, w64, to_z, of_z, rules}
use Rattle.std.proofs.lemmas.Result.{err_from_is_err_and}
use Rattle.billing.specs.declared.entries.Entry.TheVariants.{Post}
use Rattle.rules.specs.Checks.{unless}
use Rattle.billing.specs.Keepings.{kept, Leaves}
use Rattle.billing.specs.Accounts.{call_refusal}
use Rattle.billing.proofs.Rows.{refused_by, none_refused}
use Rattle.statement.specs.Statements.{posted, after_bill}
use Rattle.statement.proofs.Amounts.{StandsFor, stands_for, same_refusal, same_after}
use Rattle.statement.proofs.desk.Desk.bill_member.Goals as goal

pub returns-in_err-post : goal.returns-in_err-post
returns-in_err-post c =
    let p = err_from_is_err_and c.from_residual-in_err-post.result c.from_residual-in_err-post.ensures.1 in
    let k = c.args.self.now.accounts in
    let m = c.args.member in
    let bill = c.in_ok-bill.bill in
    let t = bill.total_cents in
    let z = to_z w64 (of_z w64 c.amount_of.result) in
    let s : StandsFor t z = stands_for t c.amount_of.result (search rules) (search rules) record { same = c.amount_of.ensures.same; beyond = c.amount_of.ensures.beyond } in
    let ok = sym c.bill.ensures ∙ c.in_ok-bill.was in
    let bad = refused_by (call_refusal m (Post z) (kept k)) z _ (sym c.post.ensures.answer ∙ c.in_err-post.was) in
    record {
      sheets = refl;
      answer = p.1 ∙ ap Err p.2 ∙ sym (ap (λ b. posted b m (kept k)) ok ∙ ap (λ o. unless o bill) (sym (same_refusal m (kept k) t z s) ∙ bad));
      leaves = subst (Leaves k c.post.new.self) (same_after m (kept k) t z s ∙ sym (ap (λ b. after_bill b m (kept k)) ok)) c.post.ensures.leaves;
    }

pub returns : goal.returns
returns c =
    let k = c.args.self.now.accounts in
    let m = c.args.member in
    let bill = c.in_ok-bill.bill in
    let t = bill.total_cents in
    let z = to_z w64 (of_z w64 c.amount_of.result) in
    let s : StandsFor t z = stands_for t c.amount_of.result (search rules) (search rules) record { same = c.amount_of.ensures.same; beyond = c.amount_of.ensures.beyond } in
    let ok = sym c.bill.ensures ∙ c.in_ok-bill.was in
    let none = none_refused (call_refusal m (Post z) (kept k)) z _ (sym c.post.ensures.answer ∙ c.in_ok-post.was) in
    record {
      sheets = refl;
      answer = sym (ap (λ b. posted b m (kept k)) ok ∙ ap (λ o. unless o bill) (sym (same_refusal m (kept k) t z s) ∙ none));
      leaves = subst (Leaves k c.post.new.self) (same_after m (kept k) t z s ∙ sym (ap (λ b. after_bill b m (kept k)) ok)) c.post.ensures.leaves;
    }
