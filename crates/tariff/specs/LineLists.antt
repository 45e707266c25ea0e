-- A supplier's own list of lines: which lists pass the check, and what a list means. Assumes nothing.
use Rattle.std.specs.Prelude.{◌≡◌, Bool, true, false, cond, ◌&&◌, List, [], ◌∷◌, length, pos, Ok, Err, Result, nat_le, refl}
use Rattle.std.proofs.lemmas.Bool.{and_parts}
use Rattle.schedule.specs.declared.line.Line.{Line}
use Rattle.schedule.specs.Lines.{line}
use Rattle.schedule.specs.Schedules.{is_schedule}
use Rattle.tariff.specs.declared.refusal.Refusal.{Refusal}
use Rattle.tariff.specs.declared.refusal.Refusal.TheVariants.{BadLineList}

-- a list passes the check where it is a schedule's, of at most 64 lines
abbrev pub passes : List Line → Bool
passes ls = is_schedule ls && nat_le (length ls) 64

-- the answer of the check
abbrev pub line_list_check : List Line → Result (Unit {0}) Refusal
line_list_check ls = cond (passes ls) (Ok tt) (Err BadLineList)

-- what a list means: its lines, or the one line (0, 0) where it fails the check
abbrev pub listed : List Line → List Line
listed ls = cond (passes ls) ls (line (pos 0) (pos 0) ∷ [])

-- either way that is a schedule
pub listed_lawful : (ls : List Line) → is_schedule (listed ls) ≡ true
listed_lawful ls =
    elim (passes ls) as (λ t. passes ls ≡ t → is_schedule (cond t ls (line (pos 0) (pos 0) ∷ [])) ≡ true) [ true ↦ λ e. (and_parts (is_schedule ls) (nat_le (length ls) 64) e).0 | false ↦ λ e. refl ] refl
