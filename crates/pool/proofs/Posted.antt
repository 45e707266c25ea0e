-- What a write to the cells of one member makes of a book's members. Assumes nothing.
use Rattle.std.proofs.Common.{◌≡◌, ℕ, zero, suc, ◌+◌, ◌*◌, ◌<◌, ◌≤◌, Bool, true, false, cond, eqb, ◌||◌, ◌≢◌, ◌⊎◌, List, [], ◌∷◌, length, get_or, drop, set, position, Some, Option, sym, refl, ap, ◌∙◌, ⊎_elim, arith}
use Rattle.std.specs.Option.{is_some}
use Rattle.std.specs.List.{position_from}
use Rattle.std.proofs.lemmas.List.{length-set, length-take-le, length-drop, get_or-take, get_or-drop, get_or-set_same, get_or-set_other, same_lists}
use Rattle.std.proofs.lemmas.List.Quantifiers.{position-Some}
use Rattle.std.proofs.lemmas.Iterator.Adapters.{position_from-zero}
use Rattle.std.proofs.lemmas.Bool.{cases_eq}
use Rattle.rules.specs.Days.{most_days}
use Rattle.agreement.specs.declared.day.Day.{Day}
use Rattle.agreement.specs.Book.{Member, blank}
use Rattle.agreement.specs.Postings.{enrolled, on_member, on_days, from_day}
use Rattle.pool.specs.declared.table.Enrolled.{Enrolled}
use Rattle.pool.specs.Members.{nobody}
use Rattle.pool.specs.Contents.{members_of}
use Rattle.pool.proofs.Places.{days_at, length-members_of, get_or-members_of, member_at}

-- ---- the first member with an account
enrolled_from : (a i : ℕ) (ms : List Member) → is_some (position_from (λ (m : Member). eqb m.account a) i ms) ≡ enrolled a ms
enrolled_from a i [] = refl
enrolled_from a i (m ∷ ms) =
    elim (eqb m.account a) as (λ b. is_some (cond b (Some i) (position_from (λ (m : Member). eqb m.account a) (i + 1) ms)) ≡ (b || enrolled a ms))
    [ true ↦ refl | false ↦ enrolled_from a (i + 1) ms ]

pub enrolled_is : (a : ℕ) (ms : List Member) → is_some (position (λ (m : Member). eqb m.account a) ms) ≡ enrolled a ms
enrolled_is a ms = ap (λ (o : Option ℕ). is_some o) (position_from-zero (λ (m : Member). eqb m.account a) ms) ∙ enrolled_from a 0 ms

on_first : (a : ℕ) (f : Member → Member) (ms : List Member) (k : ℕ) → k < length ms → eqb (get_or ms k nobody).account a ≡ true → ((j : ℕ) → j < k → eqb (get_or ms j nobody).account a ≡ false) → on_member a f ms ≡ set ms k (f (get_or ms k nobody))
on_first a f [] k lt same before = absurd (omega arith)
on_first a f (m ∷ ms) zero lt same before = ap (λ (b : Bool). cond b (f m ∷ ms) (m ∷ on_member a f ms)) same
on_first a f (m ∷ ms) (suc k) lt same before =
    ap (λ (b : Bool). cond b (f m ∷ ms) (m ∷ on_member a f ms)) (before 0 (omega arith))
    ∙ ap (λ (xs : List Member). m ∷ xs) (on_first a f ms k (omega arith) same (λ j h. before (suc j) (omega arith)))

-- ---- chosen days, changed
length-from_day : (n : ℕ) (p : ℕ → Bool) (f : Day → Day) (ds : List Day) → length (from_day n p f ds) ≡ length ds
length-from_day n p f [] = refl
length-from_day n p f (d ∷ ds) = ap suc (length-from_day (n + 1) p f ds)

get_or-from_day : (n : ℕ) (p : ℕ → Bool) (f : Day → Day) (ds : List Day) (k : ℕ) (d : Day) → k < length ds → get_or (from_day n p f ds) k d ≡ cond (p (n + k)) (f (get_or ds k d)) (get_or ds k d)
get_or-from_day n p f [] k d lt = absurd (omega arith)
get_or-from_day n p f (x ∷ ds) zero d lt = let e : n + 0 ≡ n = omega arith in rw e
get_or-from_day n p f (x ∷ ds) (suc k) d lt = let e : n + suc k ≡ n + 1 + k = omega arith in rw e (get_or-from_day (n + 1) p f ds k d (omega arith))

-- ---- cells in rows, of which the first n count
-- the cells after a change to the chosen days of the member at k
pub record Wrote (cells new : List Day) (k n : ℕ) (p : ℕ → Bool) (f : Day → Day) : Type 0 where
  pub long : length new ≡ length cells
  pub here : (j : ℕ) (d : Day) → j < n → get_or new (k * most_days + j) d ≡ cond (p (1 + j)) (f (get_or cells (k * most_days + j) d)) (get_or cells (k * most_days + j) d)
  pub other : (i j : ℕ) (d : Day) → i ≢ k → j < n → get_or new (i * most_days + j) d ≡ get_or cells (i * most_days + j) d
  -- Each cell is as it was, or it is the member's and changed.
  pub each : (c : ℕ) → (get_or new c blank ≡ get_or cells c blank) ⊎ ((c < k * most_days + n) × (get_or new c blank ≡ f (get_or cells c blank)))

module _ (cells new : List Day) (k n : ℕ) (p : ℕ → Bool) (f : Day → Day) (w : Wrote cells new k n p f) (es : List Enrolled) (lt : k < length es) (short : n ≤ most_days) (fits : length es * most_days ≤ length cells) where
  in_row : (xs : List Day) (i j : ℕ) (d : Day) → j < n → get_or (days_at n xs i) j d ≡ get_or xs (i * most_days + j) d
  in_row xs i j d h = get_or-take n (drop (i * most_days) xs) j d h ∙ get_or-drop (i * most_days) xs j d

  long_row : (xs : List Day) (i : ℕ) → length xs ≡ length cells → i < length es → length (days_at n xs i) ≡ n
  long_row xs i e h = let l = length-drop (i * most_days) xs in length-take-le n (drop (i * most_days) xs) (omega (arith, l, e))

  changed : days_at n new k ≡ from_day 1 p f (days_at n cells k)
  changed =
      let l = long_row cells k refl lt in
      let m = long_row new k w.long lt in
      same_lists (days_at n new k) (from_day 1 p f (days_at n cells k)) (m ∙ sym l ∙ sym (length-from_day 1 p f (days_at n cells k)))
      (λ j d h.
      let h' : j < n = omega (arith, m) in
      in_row new k j d h' ∙ w.here j d h' ∙ ap (λ (x : Day). cond (p (1 + j)) (f x) x) (sym (in_row cells k j d h')) ∙ sym (get_or-from_day 1 p f (days_at n cells k) j d (omega (arith, l))))

  unchanged : (i : ℕ) → i < length es → i ≢ k → days_at n new i ≡ days_at n cells i
  unchanged i h ne =
      let l = long_row cells i refl h in
      let m = long_row new i w.long h in
      same_lists (days_at n new i) (days_at n cells i) (m ∙ sym l)
      (λ j d g. let h' : j < n = omega (arith, m) in in_row new i j d h' ∙ w.other i j d ne h' ∙ sym (in_row cells i j d h'))

  -- the members are those before, the one at k with its chosen days changed
  on_place : members_of n es new ≡ set (members_of n es cells) k (on_days p f (get_or (members_of n es cells) k nobody))
  on_place =
      let ms = members_of n es cells in
      let one = on_days p f (get_or (members_of n es cells) k nobody) in
      let l = length-members_of n es cells in
      let m = length-members_of n es new in
      same_lists (members_of n es new) (set ms k one) (m ∙ sym l ∙ sym (length-set ms k one))
      (λ i d h.
      let h' : i < length es = omega (arith, m) in
      get_or-members_of n es new i d h'
      ∙ ⊎_elim
      (λ (e : i ≡ k).
      ap (λ (x : ℕ). member_at n es new x) e
      ∙ ap (λ (ds : List Day). record { account = (member_at n es cells k).account; retention = (member_at n es cells k).retention; days = ds }) changed
      ∙ ap (on_days p f) (sym (get_or-members_of n es cells k nobody lt))
      ∙ sym (get_or-set_same ms k one d (omega (arith, l, lt)))
      ∙ ap (λ (x : ℕ). get_or (set ms k one) x d) (sym e))
      (λ ne.
      ap (λ (ds : List Day). record { account = (member_at n es cells i).account; retention = (member_at n es cells i).retention; days = ds }) (unchanged i h' ne)
      ∙ sym (get_or-members_of n es cells i d h')
      ∙ sym (get_or-set_other ms k i one d ne))
      (cases_eq i k))

  pub posted : (a : ℕ) → position (λ (m : Member). eqb m.account a) (members_of n es cells) ≡ Some k → members_of n es new ≡ on_member a (on_days p f) (members_of n es cells)
  posted a at =
      let ms = members_of n es cells in
      let found = position-Some (λ (m : Member). eqb m.account a) ms k nobody at in
      on_place ∙ sym (on_first a (on_days p f) ms k found.0 found.1 (λ j h. found.2 j h ∙ refl))
