-- Which line of its list a schedule answers. Assumes nothing.
use Rattle.std.specs.Prelude.{ℕ, Bool, cond, ◌&&◌, List, [], ◌∷◌, ℤ, pos, int_le, nat_le, unsigned_abs}
use Rattle.schedule.specs.declared.line.Line.{Line}
use Rattle.schedule.specs.Lines.{line, amount}
use Rattle.schedule.specs.Charges.{charge}

-- a schedule compares its lines where neither the base nor the size of the difference is above 62,000,000,000
abbrev pub in_range : ℤ → ℕ → Bool
in_range difference base = nat_le (unsigned_abs difference) 62000000000 && nat_le base 62000000000

-- the first line of the list that gives this amount or more
abbrev pub first_giving : ℤ → ℤ → ℕ → List Line → Line
first_giving grains difference base [] = line (pos 0) (pos 0)
first_giving grains difference base (l ∷ ls) =
    cond (int_le grains (amount difference base l)) l (first_giving grains difference base ls)

-- the first line that gives the greatest amount; out of range the first line; no schedule has an empty list
unfoldable pub answer : ℤ → ℕ → List Line → Line
answer difference base [] = line (pos 0) (pos 0)
answer difference base (l ∷ ls) =
    cond (in_range difference base) (first_giving (charge difference base (l ∷ ls)) difference base (l ∷ ls)) l
