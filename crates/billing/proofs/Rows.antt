-- What an answer tells of the row of checks that decided it.
use Rattle.std.proofs.Common.{◌≡◌, ℕ, List, ℤ, ◌+ℤ◌, Some, None, Ok, Err, Option, sym, refl, ap, ◌∙◌, arith, w64, SFits, to_z, of_z}
use Rattle.std.proofs.lemmas.Int.{ints}
use Rattle.billing.specs.declared.account.Account.{Account}
use Rattle.billing.specs.declared.entries.Entry.{Entry}
use Rattle.billing.specs.declared.refusals.Refusal.{Refusal}
use Rattle.rules.specs.Checks.{unless, changed_unless, refusal_of}
use Rattle.billing.specs.Keepings.{found, replaced, after_change}
use Rattle.billing.specs.Accounts.{account, account_number, added, balance_of, call_refusal, after}

pub refused_by : {X : Type 0} (o : Option Refusal) (v : X) (e : Refusal) → unless o v ≡ Err e → o ≡ Some e
refused_by None v e p = grind (arith, p)
refused_by (Some r) v e p = grind (arith, p)

pub none_refused : {X : Type 0} (o : Option Refusal) (v w : X) → unless o v ≡ Ok w → o ≡ None
none_refused None v w p = refl
none_refused (Some r) v w p = grind (arith, p)

pub answered : {X : Type 0} (o : Option Refusal) (v w : X) → unless o v ≡ Ok w → v ≡ w
answered None v w p = grind (arith, p)
answered (Some r) v w p = grind (arith, p)

-- an accepted entry puts the new balance in the account's place
pub entered_as : (n : ℕ) (entry : Entry) (x a : Account) (xs : List Account) → found account_number n xs ≡ Ok a → x ≡ account n (balance_of n xs +ℤ added entry (balance_of n xs)) → call_refusal n entry xs ≡ None → after_change account_number x xs ≡ after n entry xs
entered_as n entry x a xs f e why =
    let y = account n (balance_of n xs +ℤ added entry (balance_of n xs)) in
    ap (λ z. after_change account_number z xs) e ∙ ap (λ r. changed_unless (refusal_of r) xs (replaced account_number y xs)) f ∙ sym (ap (λ o. changed_unless o xs (replaced account_number y xs)) why)

-- a sum that fits is what the machine adds
pub same_sum : (b a : ℤ) → SFits w64 b → SFits w64 a → SFits w64 (b +ℤ a) → to_z w64 (of_z w64 (to_z w64 (of_z w64 b) +ℤ to_z w64 (of_z w64 a))) ≡ b +ℤ a
same_sum b a fb fa fs = omega (arith, ints)
