-- An amount that stands for a total is posted as the total is.
use Rattle.std.proofs.Common.{◌≡◌, ℕ, ◌<◌, ◌≤◌, Bool, true, false, ltb, List, [], ◌∷◌, ℤ, ◌+ℤ◌, nat_abs, Some, Ok, Err, Option, Result, sym, refl, ap, ◌∙◌, subst, ltb-false, ltb-true, lt-ltb, w64, SFits, to_z, of_z}
use mir.Syntax.{w128}
use Rattle.std.proofs.lemmas.Int.{to_z-of_z}
use Rattle.billing.specs.declared.account.Account.{Account}
use Rattle.billing.specs.declared.entries.Entry.TheVariants.{Post}
use Rattle.billing.specs.declared.refusals.Refusal.{Refusal}
use Rattle.billing.specs.declared.refusals.Refusal.TheVariants.{AmountTooLarge, BalanceTooLarge}
use Rattle.billing.specs.Limits.{most_amount, most_balance}
use Rattle.rules.specs.Checks.{◌when◌, first, changed_unless, refusal_of}
use Rattle.billing.specs.Keepings.{found, replaced}
use Rattle.billing.specs.Accounts.{account, account_number, balance_of, call_refusal, after}

-- a total, and the amount that is posted for it
pub record StandsFor (total amount : ℤ) : Type 0 where
  pub same : nat_abs total ≤ most_amount → amount ≡ total
  pub beyond : most_amount < nat_abs total → most_amount < nat_abs amount

-- as both were passed on
pub stands_for : (t a : ℤ) → SFits w128 t → SFits w64 a → StandsFor (to_z w128 (of_z w128 t)) a → StandsFor t (to_z w64 (of_z w64 a))
stands_for t a f g s =
    subst (StandsFor t) (sym (to_z-of_z w64 a g)) (subst (λ x. StandsFor x a) (to_z-of_z w128 t f) s)

module _ (m : ℕ) (xs : List Account) where
  -- what an amount that is too large is refused by, whatever it is
  too_large : Result Account Refusal → Option Refusal
  too_large (Ok a) = Some AmountTooLarge
  too_large (Err e) = Some e

  decided : (r : Result Account Refusal) (check : Option Refusal) → first (refusal_of r ∷ Some AmountTooLarge ∷ check ∷ []) ≡ too_large r
  unfolding too_large
  decided (Ok a) check = refl
  decided (Err e) check = refl

  too_large_lem : (z : ℤ) → most_amount < nat_abs z → call_refusal m (Post z) xs ≡ too_large (found account_number m xs)
  too_large_lem z h =
      let check = BalanceTooLarge when ltb most_balance (nat_abs (balance_of m xs +ℤ z)) in
      ap (λ b. first (refusal_of (found account_number m xs) ∷ AmountTooLarge when b ∷ check ∷ [])) (lt-ltb most_amount (nat_abs z) h) ∙ decided (found account_number m xs) check

  unchanged : (r : Result Account Refusal) (ys : List Account) → changed_unless (too_large r) xs ys ≡ xs
  unfolding too_large
  unchanged (Ok a) ys = refl
  unchanged (Err e) ys = refl

  left_alone : (z : ℤ) → most_amount < nat_abs z → after m (Post z) xs ≡ xs
  left_alone z h =
      let y = replaced account_number (account m (balance_of m xs +ℤ z)) xs in
      ap (λ o. changed_unless o xs y) (too_large_lem z h) ∙ unchanged (found account_number m xs) y

  pub same_refusal : (t a : ℤ) → StandsFor t a → call_refusal m (Post a) xs ≡ call_refusal m (Post t) xs
  same_refusal t a s =
      let P : Bool → Type 0 = λ b. ltb most_amount (nat_abs t) ≡ b → call_refusal m (Post a) xs ≡ call_refusal m (Post t) xs in
      let go : (b : Bool) → P b = λ b.
      elim b as P [
        | true ↦ λ e. let h = ltb-true most_amount (nat_abs t) e in too_large_lem a (s.beyond h) ∙ sym (too_large_lem t h)
        | false ↦ λ e. ap (λ z. call_refusal m (Post z) xs) (s.same (ltb-false most_amount (nat_abs t) e))
      ] in
      go (ltb most_amount (nat_abs t)) refl

  pub same_after : (t a : ℤ) → StandsFor t a → after m (Post a) xs ≡ after m (Post t) xs
  same_after t a s =
      let P : Bool → Type 0 = λ b. ltb most_amount (nat_abs t) ≡ b → after m (Post a) xs ≡ after m (Post t) xs in
      let go : (b : Bool) → P b = λ b.
      elim b as P [
        | true ↦ λ e. let h = ltb-true most_amount (nat_abs t) e in left_alone a (s.beyond h) ∙ sym (left_alone t h)
        | false ↦ λ e. ap (λ z. after m (Post z) xs) (s.same (ltb-false most_amount (nat_abs t) e))
      ] in
      go (ltb most_amount (nat_abs t)) refl
