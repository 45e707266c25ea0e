-- A supplier's list of lines, checked and asked. Assumes nothing.
use Rattle.std.proofs.Common.{◌≡◌, ℕ, true, false, cond, List, [], ◌∷◌, ℤ, pos, Ok, Err, Result, sym, refl, arith}
use Rattle.schedule.specs.declared.line.Line.{Line}
use Rattle.schedule.specs.Lines.{line}
use Rattle.schedule.specs.Answers.{in_range, answer}
use Rattle.tariff.specs.declared.refusal.Refusal.{Refusal}
use Rattle.tariff.specs.declared.refusal.Refusal.TheVariants.{BadLineList}
use Rattle.tariff.specs.LineLists.{passes, line_list_check, listed}
use Rattle.schedule.proofs.Scan.{answer_in, answer_out}

-- a list of one line answers it everywhere
pub answer_only : (d : ℤ) (m : ℕ) (x : Line) → answer d m (x ∷ []) ≡ x
answer_only d m x =
    elim (in_range d m) as (λ t. in_range d m ≡ t → answer d m (x ∷ []) ≡ x) [ true ↦ λ e. answer_in d m x [] e | false ↦ λ e. answer_out d m x [] e ] refl

-- a list that fails the check answers the one line (0, 0)
pub answer_refused : (d : ℤ) (m : ℕ) (ls : List Line) (e : Refusal) → Err e ≡ line_list_check ls → line (pos 0) (pos 0) ≡ answer d m (listed ls)
answer_refused d m ls e h =
    elim (passes ls) as (λ t. Err e ≡ cond t (Ok tt) (Err BadLineList) → line (pos 0) (pos 0) ≡ answer d m (cond t ls (line (pos 0) (pos 0) ∷ []))) [ true ↦ λ k. absurd (never e k) | false ↦ λ k. sym (answer_only d m (line (pos 0) (pos 0))) ] h
  where
    never : (e : Refusal) → ◌≡◌ {A = Result (Unit {0}) Refusal} (Err e) (Ok tt) → ⊥
    never e k = let z : ◌≡◌ {A = ℕ} 0 1 = cc in omega arith
