-- A list of calls, made one at a time: one call more, and the end of the list. Assumes nothing.
use Rattle.std.proofs.Common.{◌≡◌, ℕ, ◌+◌, ◌<◌, ◌≤◌, List, [], ◌∷◌, ◌++◌, length, get_or, take, drop, set, Result, sym, ap, ◌∙◌}
use Rattle.std.proofs.lemmas.List.{at_drop_more, at_drop_all, append-nil, append_assoc, take_more_set, take_all}
use Rattle.agreement.specs.declared.calls.Call.{Call}
use Rattle.agreement.specs.declared.refusals.Refusal.{Refusal}
use Rattle.agreement.specs.Book.{Book}
use Rattle.agreement.specs.Calls.{after, answer}
use Rattle.agreement.specs.Runs.{run, answers_to}

-- the book is made by the call at a place of the book before
module _ (calls : List Call) (i : ℕ) (d : Call) (before book : Book) (lt : i < length calls) (made : book ≡ after (get_or calls i d) before) where
  pub run_more : run (drop (i + 1) calls) book ≡ run (drop i calls) before
  run_more = ap (λ (b : Book). run (drop (i + 1) calls) b) made ∙ sym (at_drop_more (λ cs. run cs before) calls i d lt)

  pub answers_more : (r : Result (Unit {0}) Refusal) (rs : List (Result (Unit {0}) Refusal)) → i < length rs → r ≡ answer (get_or calls i d) before → take (i + 1) (set rs i r) ++ answers_to (drop (i + 1) calls) book ≡ take i rs ++ answers_to (drop i calls) before
  answers_more r rs in-rs is =
      ap (λ (xs : List (Result (Unit {0}) Refusal)). xs ++ answers_to (drop (i + 1) calls) book) (take_more_set rs i r in-rs)
      ∙ append_assoc (take i rs) (r ∷ []) (answers_to (drop (i + 1) calls) book)
      ∙ ap (λ (b : Book). take i rs ++ r ∷ answers_to (drop (i + 1) calls) b) made
      ∙ ap (λ (a : Result (Unit {0}) Refusal). take i rs ++ a ∷ answers_to (drop (i + 1) calls) (after (get_or calls i d) before)) is
      ∙ ap (λ (xs : List (Result (Unit {0}) Refusal)). take i rs ++ xs) (sym (at_drop_more (λ cs. answers_to cs before) calls i d lt))

-- no call is left
module _ (calls : List Call) (i : ℕ) (book : Book) (all : length calls ≤ i) where
  pub run_all : run (drop i calls) book ≡ book
  run_all = at_drop_all (λ cs. run cs book) calls i all

  pub answers_all : (rs : List (Result (Unit {0}) Refusal)) → length rs ≤ i → take i rs ++ answers_to (drop i calls) book ≡ rs
  answers_all rs short =
      ap (λ (xs : List (Result (Unit {0}) Refusal)). take i rs ++ xs) (at_drop_all (λ cs. answers_to cs book) calls i all)
      ∙ append-nil (take i rs) ∙ take_all i rs short
