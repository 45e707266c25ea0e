-- The first unread day of a member, and the first missing read, by their places. Assumes nothing.
use Rattle.std.proofs.Common.{◌≡◌, ℕ, ◌+◌, ◌<◌, ◌≤◌, true, false, cond, List, [], ◌∷◌, length, get_or, drop, Some, None, Option, position, refl, sym, ap, ◌∙◌}
use Rattle.std.specs.List.{position_from}
use Rattle.std.proofs.lemmas.List.{at_drop_more, at_drop_all}
use Rattle.std.proofs.lemmas.Iterator.Adapters.{position_from-zero}
use Rattle.agreement.specs.declared.day.Day.{Day}
use Rattle.agreement.specs.declared.refusals.Refusal.TheVariants.{ReadMissing}
use Rattle.agreement.specs.Book.{Member, is_unread}
use Rattle.agreement.specs.Missing.{first_unread, missing_from, missing_or, unread_from}
use Rattle.pool.specs.Members.{nobody}

-- a place counted from 1
abbrev pub from_one : Option ℕ → Option ℕ
from_one None = None
from_one (Some n) = Some (n + 1)

unread_counted : (n : ℕ) (days : List Day) → unread_from (n + 1) days ≡ from_one (position_from (λ (day : Day). is_unread day.reading) n days)
unread_counted n [] = refl
unread_counted n (d ∷ ds) =
    elim (is_unread d.reading) as (λ b. elim b as (λ _. Option ℕ) [ true ↦ Some (n + 1) | false ↦ unread_from (n + 1 + 1) ds ] ≡ from_one (cond b (Some n) (position_from (λ (day : Day). is_unread day.reading) (n + 1) ds)))
    [ true ↦ refl | false ↦ unread_counted (n + 1) ds ]

pub unread_is : (days : List Day) → unread_from 1 days ≡ from_one (position (λ (day : Day). is_unread day.reading) days)
unread_is days = unread_counted 0 days ∙ ap from_one (sym (position_from-zero (λ (day : Day). is_unread day.reading) days))

-- the missing reads of the members from a place on
module _ (ms : List Member) (i : ℕ) (m : Member) (lt : i < length ms) (here : m ≡ get_or ms i nobody) where
  from_here : (o : Option ℕ) → o ≡ first_unread m → missing_from (i + 1) (drop i ms) ≡ missing_or (i + 1) o (missing_from (i + 1 + 1) (drop (i + 1) ms))
  from_here o e =
      at_drop_more (missing_from (i + 1)) ms i nobody lt
      ∙ ap (λ (x : Member). missing_or (i + 1) (first_unread x) (missing_from (i + 1 + 1) (drop (i + 1) ms))) (sym here)
      ∙ ap (λ (x : Option ℕ). missing_or (i + 1) x (missing_from (i + 1 + 1) (drop (i + 1) ms))) (sym e)

  pub is_missing : (day : ℕ) → Some day ≡ first_unread m → missing_from (i + 1) (drop i ms) ≡ Some (ReadMissing (i + 1) day)
  is_missing day e = from_here (Some day) e

  pub is_whole : None ≡ first_unread m → missing_from (i + 1) (drop i ms) ≡ missing_from (i + 1 + 1) (drop (i + 1) ms)
  is_whole e = from_here None e

pub all_whole : (ms : List Member) (i : ℕ) → length ms ≤ i → missing_from (i + 1) (drop i ms) ≡ None
all_whole ms i le = at_drop_all (missing_from (i + 1)) ms i le
