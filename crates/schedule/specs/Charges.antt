-- The charge of a list of lines, whichever line is picked for it. Assumes nothing.
use Rattle.std.specs.Prelude.{ℕ, List, [], ◌∷◌, map, ℤ, pos, fold}
use Rattle.std.specs.Int.{int_max}
use Rattle.schedule.specs.declared.line.Line.{Line}
use Rattle.schedule.specs.Lines.{amount}

-- the greatest amount that a line of the list gives; no lines charge nothing
unfoldable pub charge : ℤ → ℕ → List Line → ℤ
charge difference base [] = pos 0
charge difference base (l ∷ ls) = fold int_max (amount difference base l) (map (amount difference base) ls)
