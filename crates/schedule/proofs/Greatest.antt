-- What a caller may use of a schedule's answer and charge. Assumes nothing.
use Rattle.std.proofs.Common.{◌≡◌, ℕ, ◌+◌, true, false, cond, ◌⊎◌, List, [], ◌∷◌, map, ℤ, ◌+ℤ◌, ◌≤ℤ◌, fold, sym, refl, ap, ◌∙◌, subst, inl, inr, ⊎_elim, arith}
use lib.Signed.{lt_z}
use Rattle.std.specs.Int.{int_max}
use Rattle.std.specs.List.{ContainsAt, AllByRecursion}
use Rattle.std.proofs.ByRecursion.{all_has_itself, all-has, All-map, folded_max_z_bounds, folded_max_z_reached}
use Rattle.std.proofs.lemmas.List.Elements.{recursion_from_All}
use Rattle.std.proofs.lemmas.List.Sums.{AllPass-from_list_all}
use Rattle.std.proofs.lemmas.Int.{ints}
use Rattle.std.proofs.lemmas.Bool.{false≢true}
use Rattle.schedule.specs.declared.line.Line.{Line}
use Rattle.schedule.specs.Lines.{amount, within_limits, greater_of}
use Rattle.schedule.specs.Schedules.{all_within_limits, is_schedule}
use Rattle.schedule.specs.Charges.{charge}
use Rattle.schedule.specs.Answers.{in_range, answer}
use Rattle.schedule.specs.Laws.{Fixed, PoolingSaves}
use Rattle.schedule.proofs.Integers.{amount_add}
use Rattle.schedule.proofs.Scan.{kept, amount_greater_of, answer_in, answer_out}

-- every line of a schedule is within the limits
pub all_within : (ls : List Line) → all_within_limits ls ≡ true → AllByRecursion (λ l. within_limits l ≡ true) ls
all_within ls h = recursion_from_All _ ls (AllPass-from_list_all within_limits ls h)

pub schedule_within : (ls : List Line) → is_schedule ls ≡ true → AllByRecursion (λ l. within_limits l ≡ true) ls
schedule_within [] h = tt
schedule_within (l ∷ ls) h = all_within (l ∷ ls) h

-- what holds of every line holds of the one that the scan keeps
kept_has : (P : Line → Type 0) (d : ℤ) (m : ℕ) (x : Line) (ls : List Line) → P x → AllByRecursion P ls → P (kept d m x ls)
kept_has P d m x [] p q = p
kept_has P d m x (l ∷ ls) p q =
    kept_has P d m (greater_of d m x l) ls (elim (lt_z (amount d m x) (amount d m l)) as (λ t. P (cond t l x)) [ true ↦ q.0 | false ↦ p ]) q.1

-- what holds of every line of a schedule holds of its answer
pub answer_has : (P : Line → Type 0) (d : ℤ) (m : ℕ) (ls : List Line) → is_schedule ls ≡ true → AllByRecursion P ls → P (answer d m ls)
answer_has P d m [] s q = absurd (false≢true s)
answer_has P d m (l ∷ ls) s q =
    elim (in_range d m) as (λ t. in_range d m ≡ t → P (answer d m (l ∷ ls))) [ true ↦ λ e. subst P (sym (answer_in d m l ls e)) (kept_has P d m l ls q.0 q.1) | false ↦ λ e. subst P (sym (answer_out d m l ls e)) q.0 ] refl

amount_kept : (d : ℤ) (m : ℕ) (x : Line) (ls : List Line) → amount d m (kept d m x ls) ≡ charge d m (x ∷ ls)
unfolding charge
amount_kept d m x [] = refl
amount_kept d m x (l ∷ ls) =
    amount_kept d m (greater_of d m x l) ls ∙ ap (λ z. fold int_max z (map (amount d m) ls)) (amount_greater_of d m x l)

-- in range the answer gives the charge
pub amount_answer : (d : ℤ) (m : ℕ) (ls : List Line) → is_schedule ls ≡ true → in_range d m ≡ true → amount d m (answer d m ls) ≡ charge d m ls
amount_answer d m [] s h = absurd (false≢true s)
amount_answer d m (l ∷ ls) s h = ap (amount d m) (answer_in d m l ls h) ∙ amount_kept d m l ls

all_unmap : (P : ℤ → Type 0) (f : Line → ℤ) (ls : List Line) → AllByRecursion P (map f ls) → AllByRecursion (λ l. P (f l)) ls
all_unmap P f [] h = tt
all_unmap P f (l ∷ ls) h = (h.0, all_unmap P f ls h.1)

-- no line gives more than the charge
pub charge_most : (d : ℤ) (m : ℕ) (ls : List Line) → AllByRecursion (λ l. amount d m l ≤ℤ charge d m ls) ls
unfolding charge
charge_most d m [] = tt
charge_most d m (l ∷ ls) =
    all_unmap (λ z. z ≤ℤ charge d m (l ∷ ls)) (amount d m) (l ∷ ls) (folded_max_z_bounds (amount d m l) (map (amount d m) ls) _ refl)

pub fixed : (d : ℤ) (m : ℕ) (ls : List Line) (l : Line) (g : ℤ) → is_schedule ls ≡ true → l ≡ answer d m ls → g ≡ amount d m l → Fixed d m ls l g
fixed d m ls l g s e f =
    record {
      among = subst (ContainsAt ls) (sym e) (answer_has (ContainsAt ls) d m ls s (all_has_itself ls));
      limits = subst (λ x. within_limits x ≡ true) (sym e) (answer_has (λ x. within_limits x ≡ true) d m ls s (schedule_within ls s));
      most = λ h. subst (λ z. AllByRecursion (λ x. amount d m x ≤ℤ z) ls) (sym (gives h)) (charge_most d m ls);
      charged = gives;
    }
  where
    gives : in_range d m ≡ true → g ≡ charge d m ls
    gives h = f ∙ ap (amount d m) e ∙ amount_answer d m ls s h

sum_bounds : (d e : ℤ) (m n : ℕ) (ls rest : List Line) → AllByRecursion (λ l. amount d m l ≤ℤ charge d m ls) rest → AllByRecursion (λ l. amount e n l ≤ℤ charge e n ls) rest → AllByRecursion (λ l. amount (d +ℤ e) (m + n) l ≤ℤ (charge d m ls +ℤ charge e n ls)) rest
sum_bounds d e m n ls [] p q = tt
sum_bounds d e m n ls (l ∷ rest) p q =
    (subst (λ z. z ≤ℤ (charge d m ls +ℤ charge e n ls)) (sym (amount_add d e m n l)) (add_le _ _ _ _ p.0 q.0), sum_bounds d e m n ls rest p.1 q.1)
  where
    add_le : (x y u v : ℤ) → x ≤ℤ u → y ≤ℤ v → (x +ℤ y) ≤ℤ (u +ℤ v)
    add_le x y u v h k = omega (arith, ints)

-- what bounds every amount bounds the charge
pub charge_least : (d : ℤ) (m : ℕ) (l : Line) (ls : List Line) (z : ℤ) → AllByRecursion (λ x. amount d m x ≤ℤ z) (l ∷ ls) → charge d m (l ∷ ls) ≤ℤ z
unfolding charge
charge_least d m l ls z h =
    let c = charge d m (l ∷ ls) in
    ⊎_elim (λ e. subst (λ x. x ≤ℤ z) (sym e) h.0) (λ k. all-has (λ x. x ≤ℤ z) (map (amount d m) ls) c (All-map (λ x. x ≤ℤ z) (amount d m) ls h.1) k) (folded_max_z_reached (amount d m l) (map (amount d m) ls) c refl)

pub pooling_saves : (ls : List Line) → PoolingSaves ls
unfolding charge
pooling_saves [] d e m n = omega (arith, ints)
pooling_saves (l ∷ ls) d e m n =
    charge_least (d +ℤ e) (m + n) l ls _ (sum_bounds d e m n (l ∷ ls) (l ∷ ls) (charge_most d m (l ∷ ls)) (charge_most e n (l ∷ ls)))

-- one of the lines gives z
abbrev pub Gives : ℤ → ℕ → ℤ → List Line → Type 0
Gives d m z [] = ⊥
Gives d m z (l ∷ ls) = (amount d m l ≡ z) ⊎ Gives d m z ls

gives_le : (d : ℤ) (m : ℕ) (z c : ℤ) (ls : List Line) → AllByRecursion (λ l. amount d m l ≤ℤ c) ls → Gives d m z ls → z ≤ℤ c
gives_le d m z c [] h g = absurd g
gives_le d m z c (l ∷ ls) h (inl e) = subst (λ x. x ≤ℤ c) e h.0
gives_le d m z c (l ∷ ls) h (inr g) = gives_le d m z c ls h.1 g

-- what bounds every amount and is given by a line is the charge
pub charge_is : (d : ℤ) (m : ℕ) (z : ℤ) (ls : List Line) → AllByRecursion (λ l. amount d m l ≤ℤ z) ls → Gives d m z ls → charge d m ls ≡ z
charge_is d m z [] h g = absurd g
charge_is d m z (l ∷ ls) h g =
    between (charge d m (l ∷ ls)) z (charge_least d m l ls z h) (gives_le d m z (charge d m (l ∷ ls)) (l ∷ ls) (charge_most d m (l ∷ ls)) g)
  where
    between : (x y : ℤ) → x ≤ℤ y → y ≤ℤ x → x ≡ y
    between x y h k = omega (arith, ints)
