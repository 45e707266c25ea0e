-- Two schedules' lists, one after the other, are a schedule's. Assumes nothing.
use Rattle.std.specs.Prelude.{◌≡◌, true, List, [], ◌∷◌, ◌++◌}
use Rattle.std.proofs.lemmas.Bool.{and_parts, and_from, false≢true}
use Rattle.schedule.specs.declared.line.Line.{Line}
use Rattle.schedule.specs.Lines.{within_limits}
use Rattle.schedule.specs.Schedules.{all_within_limits, is_schedule}

pub all_joined : (xs ys : List Line) → all_within_limits xs ≡ true → all_within_limits ys ≡ true → all_within_limits (xs ++ ys) ≡ true
all_joined [] ys h k = k
all_joined (x ∷ xs) ys h k =
    let p = and_parts (within_limits x) (all_within_limits xs) h in
    and_from (within_limits x) (all_within_limits (xs ++ ys)) p.0 (all_joined xs ys p.1 k)

pub joined_lawful : (xs ys : List Line) → is_schedule xs ≡ true → is_schedule ys ≡ true → is_schedule (xs ++ ys) ≡ true
joined_lawful [] ys h k = absurd (false≢true h)
joined_lawful (x ∷ xs) [] h k = absurd (false≢true k)
joined_lawful (x ∷ xs) (y ∷ ys) h k = all_joined (x ∷ xs) (y ∷ ys) h k
