use Rattle.std.proofs.Common.{◌≡◌, ℕ, ◌+◌, ◌<◌, length, get_or}
use Rattle.rules.specs.Days.{most_days}
use Rattle.pool.specs.Fixing.{fixed_on, no_lines, terms_of}
use Rattle.pool.proofs.book.PoolBook.day_lines.Given as goal

-- the days below have their lines
abbrev pub invariant-loop-d : goal.invariant-loop-d
invariant-loop-d g l =
    (length l.lines ≡ most_days)
    × ((k : ℕ) → k < l.d → get_or l.lines k no_lines ≡ fixed_on (terms_of g.M.Schedule.lines g.D.Schedule.lines g.O.Schedule.lines l.self.schedules) l.self.table (k + 1))
