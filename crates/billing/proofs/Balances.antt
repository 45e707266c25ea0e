-- What the accepted calls on an account added is what its balance changed by.
use Rattle.std.proofs.Common.{◌≡◌, ℕ, ◌+◌, ◌<◌, Bool, true, false, cond, eqb, List, [], ◌∷◌, ◌++◌, length, get_or, take, drop, set, ℤ, pos, ◌+ℤ◌, Some, None, Ok, Err, Option, Result, sym, refl, ap, ◌∙◌, subst, arith}
use Rattle.std.proofs.lemmas.Int.{ints}
use Rattle.std.proofs.lemmas.List.{take_more, drop_more, set_at, append_assoc, length-take-le}
use Rattle.billing.specs.declared.account.Account.{Account}
use Rattle.billing.specs.declared.entries.Call.{Call}
use Rattle.billing.specs.declared.entries.Entry.{Entry}
use Rattle.billing.specs.declared.refusals.Refusal.{Refusal}
use Rattle.rules.specs.Checks.{first, unless, changed_unless, refusal_of}
use Rattle.billing.specs.declared.keeping.Keeping.{Keeping}
use Rattle.billing.specs.declared.keeping.Numbered.{Ghosts}
use Rattle.billing.specs.Keepings.{kept, found, replaced, Leaves}
use Rattle.billing.specs.Accounts.{account, account_number, balance_found, balance_of, added, entry_checks, call_refusal, answer, after}
use Rattle.billing.specs.Runs.{answers, after_all, cents, sum_added}
use Rattle.billing.proofs.Memory.{leaves_next}
use Rattle.std.proofs.lemmas.Bool.Decides.{nat_tests}

module _ {R : Type 0} (f : R → ℕ) (x : R) where
  found_replaced : (xs : List R) (a : R) → found f (f x) xs ≡ Ok a → found f (f x) (replaced f x xs) ≡ Ok x
  found_replaced [] a e = grind (arith, e)
  found_replaced (y ∷ ys) a e = grind (arith, nat_tests, e, found_replaced ys a)

  found_elsewhere : (n : ℕ) (xs : List R) → eqb (f x) n ≡ false → found f n (replaced f x xs) ≡ found f n xs
  found_elsewhere n [] h = refl
  found_elsewhere n (y ∷ ys) h = grind (arith, nat_tests, h, found_elsewhere n ys h)

  length-replaced : (xs : List R) → length (replaced f x xs) ≡ length xs
  length-replaced [] = refl
  length-replaced (y ∷ ys) = grind (arith, nat_tests, length-replaced ys)

none_either : (b : Bool) (x : ℤ) → x ≡ x +ℤ cond b (pos 0) (pos 0)
none_either true x = omega (arith, ints)
none_either false x = omega (arith, ints)

-- one call, on the balance of any account
module _ (m n : ℕ) (entry : Entry) (xs : List Account) where
  accepted : (a : Account) (v : ℤ) → found account_number m xs ≡ Ok a → balance_of n (replaced account_number (account m (a.balance +ℤ v)) xs) ≡ balance_of n xs +ℤ cond (eqb m n) v (pos 0)
  accepted a v e =
      let x = account m (a.balance +ℤ v) in
      grind (arith, ints, nat_tests, e, found_replaced account_number x xs a e, found_elsewhere account_number x n xs)

  step : (r : Result Account Refusal) (checks : List (Option Refusal)) → found account_number m xs ≡ r → balance_of n (changed_unless (first (refusal_of r ∷ checks)) xs (replaced account_number (account m (balance_found r +ℤ added entry (balance_found r))) xs)) ≡ balance_of n xs +ℤ cond (eqb m n) (cents (unless (first (refusal_of r ∷ checks)) (added entry (balance_found r)))) (pos 0)
  step (Err e) checks q = none_either (eqb m n) (balance_of n xs)
  step (Ok a) checks q =
      let v = added entry a.balance in
      let P : Option Refusal → Type 0 = λ o. balance_of n (changed_unless o xs (replaced account_number (account m (a.balance +ℤ v)) xs)) ≡ balance_of n xs +ℤ cond (eqb m n) (cents (unless o v)) (pos 0) in
      elim (first checks) as P [ None ↦ accepted a v q | Some e ↦ none_either (eqb m n) (balance_of n xs) ]

  pub stepped : balance_of n (after m entry xs) ≡ balance_of n xs +ℤ cond (eqb m n) (cents (answer m entry xs)) (pos 0)
  stepped = step (found account_number m xs) (entry_checks entry (balance_of m xs)) refl

regroup : (x y z s t : ℤ) → x ≡ y +ℤ s → y ≡ z +ℤ t → x ≡ z +ℤ (t +ℤ s)
regroup x y z s t p q = omega (arith, ints)

-- a run of calls, on the balance of any account
pub balance_adds_up : (n : ℕ) (cs : List Call) (xs : List Account) → balance_of n (after_all cs xs) ≡ balance_of n xs +ℤ sum_added n cs (answers cs xs)
balance_adds_up n [] xs = none_either true (balance_of n xs)
balance_adds_up n (c ∷ cs) xs =
    regroup (balance_of n (after_all cs (after c.account c.entry xs))) (balance_of n (after c.account c.entry xs)) (balance_of n xs) (sum_added n cs (answers cs (after c.account c.entry xs))) (cond (eqb c.account n) (cents (answer c.account c.entry xs)) (pos 0)) (balance_adds_up n cs (after c.account c.entry xs)) (stepped c.account n c.entry xs)

pub length-after : (n : ℕ) (entry : Entry) (xs : List Account) → length (after n entry xs) ≡ length xs
length-after n entry xs =
    let x = account n (balance_of n xs +ℤ added entry (balance_of n xs)) in
    let l = length-replaced account_number x xs in
    elim (call_refusal n entry xs) as (λ o. length (changed_unless o xs (replaced account_number x xs)) ≡ length xs) [ None ↦ l | Some e ↦ refl ]

after_all_append : (ps qs : List Call) (xs : List Account) → after_all (ps ++ qs) xs ≡ after_all qs (after_all ps xs)
after_all_append [] qs xs = refl
after_all_append (p ∷ ps) qs xs = after_all_append ps qs (after p.account p.entry xs)

answers_append : (ps qs : List Call) (xs : List Account) → answers (ps ++ qs) xs ≡ answers ps xs ++ answers qs (after_all ps xs)
answers_append [] qs xs = refl
answers_append (p ∷ ps) qs xs = ap (λ l. answer p.account p.entry xs ∷ l) (answers_append ps qs (after p.account p.entry xs))

pub length-answers : (cs : List Call) (xs : List Account) → length (answers cs xs) ≡ length cs
length-answers [] xs = refl
length-answers (c ∷ cs) xs = omega (arith, length-answers cs (after c.account c.entry xs))

-- one more call of a run; d stands for no call
module _ (cs : List Call) (xs : List Account) (i : ℕ) (d : Call) (h : i < length cs) where
  after_all_more : after_all (take (i + 1) cs) xs ≡ after (get_or cs i d).account (get_or cs i d).entry (after_all (take i cs) xs)
  after_all_more = ap (λ l. after_all l xs) (take_more cs i d h) ∙ after_all_append (take i cs) (get_or cs i d ∷ []) xs

  pub leaves_more : {g : Ghosts Account} (j k l : Keeping Account g) → Leaves j k (after_all (take i cs) xs) → Leaves k l (after (get_or cs i d).account (get_or cs i d).entry (kept k)) → Leaves j l (after_all (take (i + 1) cs) xs)
  leaves_more j k l a b =
      let c = get_or cs i d in
      let ys = after c.account c.entry (after_all (take i cs) xs) in
      let b' : Leaves k l ys = subst (λ zs. Leaves k l (after c.account c.entry zs)) a.keeps b in
      subst (Leaves j l) (sym after_all_more) (leaves_next j k l (after_all (take i cs) xs) ys (length-after c.account c.entry (after_all (take i cs) xs)) a b')

  -- the answer of the call goes to its place in memory that is lent for the answers
  pub answers_more : {g : Ghosts Account} (k : Keeping Account g) (told now : List (Result ℤ Refusal)) (r : Result ℤ Refusal) → i < length told → kept k ≡ after_all (take i cs) xs → now ≡ answers (take i cs) xs ++ drop i told → r ≡ answer (get_or cs i d).account (get_or cs i d).entry (kept k) → set now i r ≡ answers (take (i + 1) cs) xs ++ drop (i + 1) told
  answers_more k told now r less keeps e q =
      let c = get_or cs i d in
      let a = answer c.account c.entry (after_all (take i cs) xs) in
      let l : length (answers (take i cs) xs) ≡ i = length-answers (take i cs) xs ∙ length-take-le i cs (omega arith) in
      let same : r ≡ a = q ∙ ap (answer c.account c.entry) keeps in
      ap (λ t. set t i r) e ∙ ap (set (answers (take i cs) xs ++ drop i told) i) same ∙ ap (λ t. set (answers (take i cs) xs ++ t) i a) (drop_more told i a less) ∙ set_at (answers (take i cs) xs) (get_or told i a) (drop (i + 1) told) a i l ∙ sym (append_assoc (answers (take i cs) xs) (a ∷ []) (drop (i + 1) told)) ∙ ap (λ t. t ++ drop (i + 1) told) (sym (ap (λ t. answers t xs) (take_more cs i d h) ∙ answers_append (take i cs) (c ∷ []) xs))

-- what stands beyond the answers of the calls adds nothing
pub sum_of_front : (n : ℕ) (cs : List Call) (xs : List Account) (rest : List (Result ℤ Refusal)) → sum_added n cs (answers cs xs ++ rest) ≡ sum_added n cs (answers cs xs)
sum_of_front n [] xs rest = refl
sum_of_front n (c ∷ cs) xs rest =
    ap (λ s. cond (eqb c.account n) (cents (answer c.account c.entry xs)) (pos 0) +ℤ s) (sum_of_front n cs (after c.account c.entry xs) rest)
