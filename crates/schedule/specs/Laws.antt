-- What holds of the answer and of the charge of every schedule. Assumes nothing.
use Rattle.std.specs.Prelude.{◌≡◌, ℕ, ◌+◌, true, List, ℤ, ◌+ℤ◌, ◌≤ℤ◌}
use Rattle.std.specs.List.{ContainsAt, AllByRecursion}
use Rattle.schedule.specs.declared.line.Line.{Line}
use Rattle.schedule.specs.Lines.{amount, within_limits}
use Rattle.schedule.specs.Charges.{charge}
use Rattle.schedule.specs.Answers.{in_range}

-- A charge at a difference and a base is fixed by one line of the schedule.
pub record Fixed (difference : ℤ) (base : ℕ) (ls : List Line) (l : Line) (grains : ℤ) : Type 0 where
  -- the line stands in the list
  pub among : ContainsAt ls l
  -- it is within the limits
  pub limits : within_limits l ≡ true
  -- in range no line of the list gives more
  pub most : in_range difference base ≡ true → AllByRecursion (λ x. amount difference base x ≤ℤ grains) ls
  -- in range it gives the charge
  pub charged : in_range difference base ≡ true → grains ≡ charge difference base ls

-- The charge of two points added is at most the two charges added.
abbrev pub PoolingSaves : List Line → Type 0
PoolingSaves ls =
    (d e : ℤ) (m n : ℕ) → charge (d +ℤ e) (m + n) ls ≤ℤ (charge d m ls +ℤ charge e n ls)
