-- The lines of a schedule that is not the product's. Assumes nothing.
use Rattle.std.specs.Prelude.{◌≡◌, true, List, [], ◌∷◌, pos, negsuc, refl}
use Rattle.schedule.specs.declared.line.Line.{Line}
use Rattle.schedule.specs.Lines.{line}
use Rattle.schedule.specs.Schedules.{is_schedule}

-- (3, -1), (-3, 0) and (3, -1) once more
abbrev pub standing_lines : List Line
standing_lines = line (pos 3) (negsuc 0) ∷ line (negsuc 2) (pos 0) ∷ line (pos 3) (negsuc 0) ∷ []

pub standing_lawful : is_schedule standing_lines ≡ true
standing_lawful = refl
