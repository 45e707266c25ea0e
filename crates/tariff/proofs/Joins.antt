-- The answer of two lists joined. Assumes nothing.
use Rattle.std.proofs.Common.{◌≡◌, ℕ, true, false, cond, List, [], ◌∷◌, ◌++◌, ℤ, sym, refl, ap, ◌∙◌, arith}
use lib.Signed.{lt_z}
use Rattle.std.proofs.lemmas.Int.{ints}
use Rattle.std.proofs.lemmas.Bool.{false≢true}
use Rattle.schedule.specs.declared.line.Line.{Line}
use Rattle.schedule.specs.Lines.{amount, greater_of}
use Rattle.schedule.specs.Schedules.{is_schedule}
use Rattle.schedule.specs.Answers.{in_range, answer}
use Rattle.schedule.proofs.Scan.{kept, answer_in, answer_out}

greater_of_assoc : (d : ℤ) (m : ℕ) (x y z : Line) → greater_of d m (greater_of d m x y) z ≡ greater_of d m x (greater_of d m y z)
greater_of_assoc d m x y z = three (amount d m) x y z
  where
    three : (f : Line → ℤ) (x y z : Line) → cond (lt_z (f (cond (lt_z (f x) (f y)) y x)) (f z)) z (cond (lt_z (f x) (f y)) y x) ≡ cond (lt_z (f x) (f (cond (lt_z (f y) (f z)) z y))) (cond (lt_z (f y) (f z)) z y) x
    three f x y z = grind (arith, ints)

kept_append : (d : ℤ) (m : ℕ) (x : Line) (xs ys : List Line) → kept d m x (xs ++ ys) ≡ kept d m (kept d m x xs) ys
kept_append d m x [] ys = refl
kept_append d m x (l ∷ xs) ys = kept_append d m (greater_of d m x l) xs ys

kept_greater_of : (d : ℤ) (m : ℕ) (x y : Line) (ys : List Line) → kept d m (greater_of d m x y) ys ≡ greater_of d m x (kept d m y ys)
kept_greater_of d m x y [] = refl
kept_greater_of d m x y (z ∷ ys) =
    ap (λ l. kept d m l ys) (greater_of_assoc d m x y z) ∙ kept_greater_of d m x (greater_of d m y z) ys

same : (d : ℤ) (m : ℕ) {u v s t : Line} → u ≡ s → v ≡ t → greater_of d m u v ≡ greater_of d m s t
same d m p q = cc

-- in range it is the greater of the two answers
answer_joined : (d : ℤ) (m : ℕ) (xs ys : List Line) → is_schedule xs ≡ true → is_schedule ys ≡ true → in_range d m ≡ true → answer d m (xs ++ ys) ≡ greater_of d m (answer d m xs) (answer d m ys)
answer_joined d m [] ys p q h = absurd (false≢true p)
answer_joined d m (x ∷ xs) [] p q h = absurd (false≢true q)
answer_joined d m (x ∷ xs) (y ∷ ys) p q h =
    answer_in d m x (xs ++ (y ∷ ys)) h ∙ kept_append d m x xs (y ∷ ys) ∙ kept_greater_of d m (kept d m x xs) y ys ∙ sym (same d m (answer_in d m x xs h) (answer_in d m y ys h))

-- so the greater of the two answers is the joined lists'
pub joined_from : (d : ℤ) (m : ℕ) (xs ys : List Line) (r p q : Line) → is_schedule xs ≡ true → is_schedule ys ≡ true → in_range d m ≡ true → p ≡ answer d m xs → q ≡ answer d m ys → r ≡ greater_of d m p q → r ≡ answer d m (xs ++ ys)
joined_from d m xs ys r p q s t h e f g = g ∙ same d m e f ∙ sym (answer_joined d m xs ys s t h)

-- out of range it is the first list's
answer_joined_out : (d : ℤ) (m : ℕ) (xs ys : List Line) → is_schedule xs ≡ true → in_range d m ≡ false → answer d m (xs ++ ys) ≡ answer d m xs
answer_joined_out d m [] ys p h = absurd (false≢true p)
answer_joined_out d m (x ∷ xs) ys p h = answer_out d m x (xs ++ ys) h ∙ sym (answer_out d m x xs h)

pub joined_out_from : (d : ℤ) (m : ℕ) (xs ys : List Line) (r : Line) → is_schedule xs ≡ true → in_range d m ≡ false → r ≡ answer d m xs → r ≡ answer d m (xs ++ ys)
joined_out_from d m xs ys r p h e = e ∙ sym (answer_joined_out d m xs ys p h)
