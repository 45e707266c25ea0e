-- Which lists of lines are schedules. Assumes nothing.
use Rattle.std.specs.Prelude.{Bool, false, List, [], ◌∷◌}
use Rattle.std.specs.List.{list_all}
use Rattle.schedule.specs.declared.line.Line.{Line}
use Rattle.schedule.specs.Lines.{within_limits}

-- every line of the list is within the limits
abbrev pub all_within_limits : List Line → Bool
all_within_limits = list_all within_limits

-- a schedule's list has one line or more, each within the limits
abbrev pub is_schedule : List Line → Bool
is_schedule [] = false
is_schedule (l ∷ ls) = all_within_limits (l ∷ ls)
