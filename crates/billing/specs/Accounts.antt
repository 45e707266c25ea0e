-- Accounts: what a call adds to a balance, and what the accounts are after it. Assumes nothing.
use Rattle.std.specs.Prelude.{ℕ, ◌≤◌, Bool, false, List, [], ◌∷◌, ℤ, pos, ◌+ℤ◌, neg_ℤ, Ok, Err, Option, Result, nat_lt, unsigned_abs}
use Rattle.std.specs.List.{AllByRecursion}
use Rattle.billing.specs.declared.account.Account.{Account}
use Rattle.billing.specs.declared.entries.Entry.{Entry}
use Rattle.billing.specs.declared.entries.Entry.TheVariants.{Post, Pay, Late}
use Rattle.billing.specs.declared.refusals.Refusal.{Refusal}
use Rattle.billing.specs.declared.refusals.Refusal.TheVariants.{AmountTooLarge, BalanceTooLarge}
use Rattle.billing.specs.Limits.{most_amount, most_balance}
use Rattle.rules.specs.Checks.{◌when◌, first, unless, changed_unless, refusal_of}
use Rattle.billing.specs.Keepings.{found, replaced}
use Rattle.billing.specs.Late.{late}

-- the account with this number and balance
abbrev pub account : ℕ → ℤ → Account
account n cents = record { number = n; balance = cents }

-- the number that an account is kept by
abbrev pub account_number : Account → ℕ
account_number a = a.number

-- a balance is not beyond the limit, either way
abbrev pub IsWithin : Account → Type 0
IsWithin a = unsigned_abs a.balance ≤ most_balance

-- no account's balance is beyond the limit
abbrev pub WithinLimit : List Account → Type 0
WithinLimit accounts = AllByRecursion IsWithin accounts

-- the balance of the account that was found; where none was, nothing
abbrev pub balance_found : Result Account Refusal → ℤ
balance_found (Ok a) = a.balance
balance_found (Err refusal) = pos 0

-- the balance of the account with the number n
abbrev pub balance_of : ℕ → List Account → ℤ
balance_of n accounts = balance_found (found account_number n accounts)

-- what an entry adds to a balance: post an amount, pay the amount taken off, late the late charge
abbrev pub added : Entry → ℤ → ℤ
added (Post amount) balance = amount
added (Pay amount) balance = neg_ℤ amount
added Late balance = pos (late balance)

-- whether the amount of an entry is beyond the limit; late has none
abbrev pub is_amount_too_large : Entry → Bool
is_amount_too_large (Post amount) = nat_lt most_amount (unsigned_abs amount)
is_amount_too_large (Pay amount) = nat_lt most_amount (unsigned_abs amount)
is_amount_too_large Late = false

-- why an amount is refused
abbrev pub amount_refusal : Entry → Option Refusal
amount_refusal entry = AmountTooLarge when is_amount_too_large entry

-- the checks of an entry at a balance: its amount is too large; the balance would pass the limit
abbrev pub entry_checks : Entry → ℤ → List (Option Refusal)
entry_checks entry balance =
    amount_refusal entry ∷ BalanceTooLarge when nat_lt most_balance (unsigned_abs (balance +ℤ added entry balance)) ∷ []

-- why an entry is refused at a balance
abbrev pub entry_refusal : Entry → ℤ → Option Refusal
entry_refusal entry balance = first (entry_checks entry balance)

-- why a call is refused: no such account; then the checks of its entry
abbrev pub call_refusal : ℕ → Entry → List Account → Option Refusal
call_refusal n entry accounts =
    first (refusal_of (found account_number n accounts) ∷ entry_checks entry (balance_of n accounts))

-- what a call answers: the cents that it added
abbrev pub answer : ℕ → Entry → List Account → Result ℤ Refusal
answer n entry accounts = unless (call_refusal n entry accounts) (added entry (balance_of n accounts))

-- the accounts after a call
abbrev pub after : ℕ → Entry → List Account → List Account
after n entry accounts =
    changed_unless (call_refusal n entry accounts) accounts (replaced account_number (account n (balance_of n accounts +ℤ added entry (balance_of n accounts))) accounts)
