-- A scan that keeps the greater line finds the first that gives the charge. Assumes nothing.
use Rattle.std.proofs.Common.{◌≡◌, ℕ, ◌-◌, ◌<◌, ◌≤◌, true, false, cond, List, [], ◌∷◌, map, length, get_or, take, drop, ℤ, pos, ◌≤ℤ◌, fold, sym, refl, ap, ◌∙◌, subst, arith, take_all}
use lib.Signed.{lt_z, le_z}
use Rattle.std.specs.Int.{int_max}
use Rattle.std.proofs.lemmas.Int.{ints}
use Rattle.std.proofs.ByRecursion.{folded_max_z_bounds}
use Rattle.schedule.specs.declared.line.Line.{Line}
use Rattle.schedule.specs.Lines.{line, amount, greater_of}
use Rattle.schedule.specs.Charges.{charge}
use Rattle.schedule.specs.Answers.{in_range, first_giving, answer}

-- the line that is left of x and then ls
abbrev pub kept : ℤ → ℕ → Line → List Line → Line
kept d m x ls = fold (greater_of d m) x ls

-- the greater line gives the greater amount
pub amount_greater_of : (d : ℤ) (m : ℕ) (x y : Line) → amount d m (greater_of d m x y) ≡ int_max (amount d m x) (amount d m y)
amount_greater_of d m x y = pick (amount d m) x y
  where
    pick : (f : Line → ℤ) (x y : Line) → f (cond (lt_z (f x) (f y)) y x) ≡ int_max (f x) (f y)
    pick f x y = grind (arith, ints)

-- the charge of x and ls is at least what x gives
pub at_least_first : (d : ℤ) (m : ℕ) (x : Line) (ls : List Line) → amount d m x ≤ℤ charge d m (x ∷ ls)
unfolding charge
at_least_first d m x ls = (folded_max_z_bounds (amount d m x) (map (amount d m) ls) _ refl).0

-- the greater of the first two lines can stand for both
charge_greater_of : (d : ℤ) (m : ℕ) (x y : Line) (ls : List Line) → charge d m (greater_of d m x y ∷ ls) ≡ charge d m (x ∷ (y ∷ ls))
unfolding charge
charge_greater_of d m x y ls = ap (λ z. fold int_max z (map (amount d m) ls)) (amount_greater_of d m x y)

first_greater_of : (d : ℤ) (m : ℕ) (z : ℤ) (x y : Line) (ls : List Line) → amount d m (greater_of d m x y) ≤ℤ z → first_giving z d m (greater_of d m x y ∷ ls) ≡ first_giving z d m (x ∷ (y ∷ ls))
first_greater_of d m z x y ls h = skip (amount d m) x y z (first_giving z d m ls) h
  where
    skip : (f : Line → ℤ) (x y : Line) (z : ℤ) (r : Line) → f (cond (lt_z (f x) (f y)) y x) ≤ℤ z → cond (le_z z (f (cond (lt_z (f x) (f y)) y x))) (cond (lt_z (f x) (f y)) y x) r ≡ cond (le_z z (f x)) x (cond (le_z z (f y)) y r)
    skip f x y z r h = grind (arith, ints)

-- what the scan keeps is the first line that gives the charge
pub kept_is_first : (d : ℤ) (m : ℕ) (x : Line) (ls : List Line) → kept d m x ls ≡ first_giving (charge d m (x ∷ ls)) d m (x ∷ ls)
unfolding charge
kept_is_first d m x [] = own (amount d m x) x (line (pos 0) (pos 0))
  where
    own : (z : ℤ) (x r : Line) → x ≡ cond (le_z z z) x r
    own z x r = grind (arith, ints)
kept_is_first d m x (y ∷ ls) =
    kept_is_first d m (greater_of d m x y) ls ∙ ap (λ z. first_giving z d m (greater_of d m x y ∷ ls)) (charge_greater_of d m x y ls) ∙ first_greater_of d m (charge d m (x ∷ (y ∷ ls))) x y ls (subst (λ z. amount d m (greater_of d m x y) ≤ℤ z) (charge_greater_of d m x y ls) (at_least_first d m (greater_of d m x y) ls))

-- in range the answer is what the scan keeps
pub answer_in : (d : ℤ) (m : ℕ) (x : Line) (ls : List Line) → in_range d m ≡ true → answer d m (x ∷ ls) ≡ kept d m x ls
unfolding answer
answer_in d m x ls h = rw h (sym (kept_is_first d m x ls))

-- out of range it is the first line
pub answer_out : (d : ℤ) (m : ℕ) (x : Line) (ls : List Line) → in_range d m ≡ false → answer d m (x ∷ ls) ≡ x
unfolding answer
answer_out d m x ls h = rw h

-- the same of a list that is taken apart as its first line and the rest
pub answer_scan : (d : ℤ) (m : ℕ) (ls : List Line) (z : Line) → 1 ≤ length ls → in_range d m ≡ true → answer d m ls ≡ kept d m (get_or ls 0 z) (take (length ls - 1) (drop 1 ls))
answer_scan d m [] z k h = absurd (omega arith)
answer_scan d m (x ∷ ls) z k h =
    let e : length ls ≤ length (x ∷ ls) - 1 = omega arith in
    answer_in d m x ls h ∙ ap (kept d m x) (sym (take_all (length (x ∷ ls) - 1) ls e))

pub answer_first : (d : ℤ) (m : ℕ) (ls : List Line) (z : Line) → 1 ≤ length ls → in_range d m ≡ false → answer d m ls ≡ get_or ls 0 z
answer_first d m [] z k h = absurd (omega arith)
answer_first d m (x ∷ ls) z k h = answer_out d m x ls h

-- no lines, no answer but the line that gives nothing
pub answer_none : (d : ℤ) (m : ℕ) (ls : List Line) → length ls < 1 → answer d m ls ≡ line (pos 0) (pos 0)
unfolding answer
answer_none d m [] k = refl
answer_none d m (x ∷ ls) k = absurd (omega arith)
