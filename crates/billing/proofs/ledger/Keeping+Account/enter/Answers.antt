use Rattle.std.proofs.Common.{◌≡◌, ◌∷◌, ◌+ℤ◌, None, sym, ap, ◌∙◌, subst, arith, w64, SFits, to_z, of_z, rules}
use Rattle.std.proofs.lemmas.Int.{ints}
use Rattle.rules.specs.Checks.{first, refusal_of}
use Rattle.billing.specs.Keepings.{kept, Leaves}
use Rattle.billing.specs.Accounts.{account, added, balance_of, balance_found, entry_checks, entry_refusal, call_refusal}
use Rattle.billing.proofs.Rows.{none_refused, answered, entered_as, same_sum}
use Rattle.billing.proofs.ledger.Keeping+Account.enter.Goals as goal

pub returns-clause-leaves : goal.returns-clause-leaves
returns-clause-leaves c =
    let k = c.args.self.now in
    let n = c.args.call.account in
    let e = c.args.call.entry in
    let b = c.in_ok-account.account.balance in
    let a = c.in_ok-added.added in
    let ok = sym c.find.ensures ∙ c.in_ok-account.was in
    let v = sym c.added_by.ensures.value ∙ c.in_ok-added.was in
    let none = none_refused (entry_refusal e b) (added e b) a v in
    let why : call_refusal n e (kept k) ≡ None = ap (λ r. first (refusal_of r ∷ entry_checks e (balance_found r))) ok ∙ none in
    let bal : balance_of n (kept k) ≡ b = ap balance_found ok in
    let val : added e (balance_of n (kept k)) ≡ a = ap (added e) bal ∙ answered (entry_refusal e b) (added e b) a v in
    let fb : SFits w64 b = search rules in
    let fa : SFits w64 a = search rules in
    let fs : SFits w64 (b +ℤ a) = omega (arith, ints, c.in_ok-added.ensures.within) in
    let z = to_z w64 (of_z w64 (to_z w64 (of_z w64 b) +ℤ to_z w64 (of_z w64 a))) in
    let ex : account n z ≡ account n (balance_of n (kept k) +ℤ added e (balance_of n (kept k))) = ap (account n) (same_sum b a fb fa fs) ∙ ap (λ z. account n (z +ℤ a)) (sym bal) ∙ ap (λ z. account n (balance_of n (kept k) +ℤ z)) (sym val) in
    subst (Leaves k c.change.new.self) (entered_as n e (account n z) c.in_ok-account.account (kept k) ok ex why) c.change.ensures.leaves
