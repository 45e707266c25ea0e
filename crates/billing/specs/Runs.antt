-- A list of calls, made in order, each on the account that it names; and what they add up to. Assumes nothing.
use Rattle.std.specs.Prelude.{ℕ, cond, List, [], ◌∷◌, ℤ, pos, ◌+ℤ◌, Ok, Err, Result, ◌==◌}
use Rattle.billing.specs.declared.account.Account.{Account}
use Rattle.billing.specs.declared.entries.Call.{Call}
use Rattle.billing.specs.declared.refusals.Refusal.{Refusal}
use Rattle.billing.specs.Accounts.{answer, after}

-- what the calls answer
abbrev pub answers : List Call → List Account → List (Result ℤ Refusal)
answers [] accounts = []
answers (c ∷ cs) accounts = answer c.account c.entry accounts ∷ answers cs (after c.account c.entry accounts)

-- the accounts after the calls
abbrev pub after_all : List Call → List Account → List Account
after_all [] accounts = accounts
after_all (c ∷ cs) accounts = after_all cs (after c.account c.entry accounts)

-- the cents that an answer tells: what an accepted call added, nothing for a refused one
abbrev pub cents : Result ℤ Refusal → ℤ
cents (Ok added) = added
cents (Err refusal) = pos 0

-- what the accepted calls on the account with the number n added
abbrev pub sum_added : ℕ → List Call → List (Result ℤ Refusal) → ℤ
sum_added n [] told = pos 0
sum_added n (c ∷ cs) [] = pos 0
sum_added n (c ∷ cs) (t ∷ told) = cond (c.account == n) (cents t) (pos 0) +ℤ sum_added n cs told
