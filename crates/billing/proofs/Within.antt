-- No call takes a balance beyond the limit.
use Rattle.std.proofs.Common.{◌≡◌, ℕ, Bool, true, false, ltb, List, [], ◌∷◌, ◌+ℤ◌, nat_abs, Some, None, Option, refl, arith, ltb-false}
use Rattle.std.proofs.lemmas.Bool.Decides.{nat_tests}
use Rattle.rules.specs.Checks.{◌when◌, first, changed_unless, refusal_of}
use Rattle.billing.specs.declared.account.Account.{Account}
use Rattle.billing.specs.declared.entries.Call.{Call}
use Rattle.billing.specs.declared.entries.Entry.{Entry}
use Rattle.billing.specs.declared.refusals.Refusal.{Refusal}
use Rattle.billing.specs.declared.refusals.Refusal.TheVariants.{AmountTooLarge, BalanceTooLarge}
use Rattle.billing.specs.Limits.{most_balance}
use Rattle.billing.specs.Keepings.{found, replaced}
use Rattle.billing.specs.Accounts.{account, account_number, added, balance_of, call_refusal, after, is_amount_too_large, IsWithin, WithinLimit}
use Rattle.billing.specs.Runs.{after_all}

last_passed : (o p : Option Refusal) (t : Bool) → first (o ∷ p ∷ BalanceTooLarge when t ∷ []) ≡ None → t ≡ false
last_passed (Some e) p t q = grind (arith, q)
last_passed None (Some e) t q = grind (arith, q)
last_passed None None true q = grind (arith, q)
last_passed None None false q = refl

replaced_within : (x : Account) (xs : List Account) → IsWithin x → WithinLimit xs → WithinLimit (replaced account_number x xs)
replaced_within x [] h w = tt
replaced_within x (y ∷ ys) h w = grind (arith, nat_tests, h, w, replaced_within x ys h)

after_within : (n : ℕ) (entry : Entry) (xs : List Account) → WithinLimit xs → WithinLimit (after n entry xs)
after_within n entry xs w =
    let sum = balance_of n xs +ℤ added entry (balance_of n xs) in
    let x = account n sum in
    let P : Option Refusal → Type 0 = λ o. call_refusal n entry xs ≡ o → WithinLimit (changed_unless o xs (replaced account_number x xs)) in
    let go : (o : Option Refusal) → P o = λ o.
    elim o as P [
      | None ↦ λ q. replaced_within x xs (ltb-false most_balance (nat_abs sum) (last_passed (refusal_of (found account_number n xs)) (AmountTooLarge when is_amount_too_large entry) (ltb most_balance (nat_abs sum)) q)) w
      | Some e ↦ λ q. w
    ] in
    go (call_refusal n entry xs) refl

pub run_within : (cs : List Call) (xs : List Account) → WithinLimit xs → WithinLimit (after_all cs xs)
run_within [] xs w = w
run_within (c ∷ cs) xs w =
    run_within cs (after c.account c.entry xs) (after_within c.account c.entry xs w)
