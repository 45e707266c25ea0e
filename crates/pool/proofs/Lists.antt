-- Lists of one element, and what a write leaves. Assumes nothing.
use Rattle.std.proofs.Common.{◌≡◌, ℕ, zero, suc, ◌<◌, List, [], ◌∷◌, length, get_or, take, set, replicate, refl, ap, ⊎_elim}
use Rattle.std.proofs.lemmas.List.{get_or-set_same, get_or-set_other, set_past}
use Rattle.std.proofs.lemmas.Bool.{cases_eq, cases_lt}

module _ {X : Type 0} where
  pub get_or-all_same : (n k : ℕ) (x : X) → get_or (replicate n x) k x ≡ x
  get_or-all_same zero k x = refl
  get_or-all_same (suc n) zero x = refl
  get_or-all_same (suc n) (suc k) x = get_or-all_same n k x

  pub take_set_at : (n : ℕ) (xs : List X) (i : ℕ) (x : X) → take n (set xs i x) ≡ set (take n xs) i x
  take_set_at zero [] i x = refl
  take_set_at zero (y ∷ xs) zero x = refl
  take_set_at zero (y ∷ xs) (suc i) x = refl
  take_set_at (suc n) [] i x = refl
  take_set_at (suc n) (y ∷ xs) zero x = refl
  take_set_at (suc n) (y ∷ xs) (suc i) x = ap (λ ys. y ∷ ys) (take_set_at n xs i x)

  -- what holds of every element and of the one written holds of every element after
  pub set_keeps : (P : X → Type 0) (xs : List X) (i : ℕ) (v d : X) → P v → ((k : ℕ) → P (get_or xs k d)) → (k : ℕ) → P (get_or (set xs i v) k d)
  set_keeps P xs i v d h all k =
      ⊎_elim
      (λ (e : k ≡ i). ⊎_elim (λ (lt : i < length xs). rw e (rw (get_or-set_same xs i v d lt) h)) (λ le. rw (set_past xs i v le) (all k)) (cases_lt i (length xs)))
      (λ ne. rw (get_or-set_other xs i k v d ne) (all k))
      (cases_eq k i)
