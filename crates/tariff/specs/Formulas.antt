-- A charge under a schedule whose charge the tariff also states as a formula of the difference and the base.
-- Assumes nothing.
use Rattle.std.specs.Prelude.{◌≡◌, ℕ, true, List, ℤ}
use Rattle.schedule.specs.declared.line.Line.{Line}
use Rattle.schedule.specs.Lines.{amount}
use Rattle.schedule.specs.Charges.{charge}
use Rattle.schedule.specs.Answers.{in_range, answer}

pub record ChargedBy (formula : ℤ → ℕ → ℤ) (ls : List Line) (difference : ℤ) (base : ℕ) (l : Line) (grains : ℤ) : Type 0 where
  -- the line is the schedule's answer
  pub answered : l ≡ answer difference base ls
  -- the grains are what the line gives
  pub given : grains ≡ amount difference base l
  -- in range they are what the formula says
  pub charged : in_range difference base ≡ true → grains ≡ formula difference base
  -- and at every difference and base the greatest of the lines is what the formula says
  pub everywhere : (d : ℤ) (m : ℕ) → charge d m ls ≡ formula d m
