-- What a search finds among rising records, and what a write at that place does.
use Rattle.std.proofs.Common.{◌≡◌, ℕ, zero, suc, ◌-◌, ◌<◌, ◌≤◌, List, [], ◌∷◌, length, get_or, set, take, Ok, Err, Result, IfOk, IfErr, sym, refl, ap, ◌∙◌, subst, arith}
use Rattle.std.specs.List.{insert}
use Rattle.std.proofs.lemmas.List.{get_or-take, get_or_default, length-take-le}
use Rattle.std.specs.List.Sorted.{IsSearchInRange, IsBinarySearchResult, IsNonDecreasingBy}
use Rattle.std.specs.Ordering.{nat_cmp, ordering_index}
use Rattle.std.proofs.lemmas.Cmp.{ranked}
use Rattle.std.proofs.lemmas.Bool.Decides.{nat_tests}
use Rattle.billing.specs.declared.refusals.Refusal.TheVariants.{NoSuchNumber}
use Rattle.billing.specs.Order.{BelowFirst, Rising}
use Rattle.billing.specs.Places.{AllAbove, IsAt, IsGapFor}
use Rattle.billing.specs.Keepings.{found, in_order, replaced}

module _ {R : Type 0} (f : R → ℕ) where
  -- what is below the first number is below each
  below_each : (n : ℕ) (xs : List R) → BelowFirst f n xs → Rising f xs → (j : ℕ) (d : R) → j < length xs → n < f (get_or xs j d)
  below_each n [] h r j d l = absurd (omega arith)
  below_each n (y ∷ ys) h r zero d l = h
  below_each n (y ∷ ys) h r (suc j) d l = omega (arith, h, below_each (f y) ys r.0 r.1 j d (omega arith))

  pub rising_lt : (xs : List R) → Rising f xs → (i j : ℕ) (d : R) → i < j → j < length xs → f (get_or xs i d) < f (get_or xs j d)
  rising_lt [] r i j d l m = absurd (omega arith)
  rising_lt (x ∷ xs) r i zero d l m = absurd (omega arith)
  rising_lt (x ∷ xs) r zero (suc j) d l m = below_each (f x) xs r.0 r.1 j d (omega arith)
  rising_lt (x ∷ xs) r (suc i) (suc j) d l m = rising_lt xs r.1 i j d (omega arith) (omega arith)

  -- the comparisons with n rise, as a binary search asks
  ranks_rise : (n : ℕ) (xs : List R) → Rising f xs → IsNonDecreasingBy (λ y. ordering_index (nat_cmp (f y) n)) xs
  ranks_rise n xs r i j d le l =
      let numbers_rise : f (get_or xs i d) ≤ f (get_or xs j d) = grind (arith, rising_lt xs r i j d, λ (same : i ≡ j). ap (λ k. f (get_or xs k d)) same) in
      grind (arith, nat_tests)

  -- a binary search by number ends at the number, or at the gap for it
  pub searched : (n : ℕ) (xs : List R) → Rising f xs → (r : Result ℕ ℕ) → IsSearchInRange r (length xs) → IsBinarySearchResult (λ y. nat_cmp (f y) n) xs r → record { found : IfOk r (IsAt f n xs); absent : IfErr r (IsGapFor f n xs) }
  searched n xs up (Ok i) in_range equal = record { found = record { in_range = in_range; has_number = λ d. ranked _ n _ (sym (equal d)) }; absent = tt }
  searched n xs up (Err i) in_range parted = record {
    found = tt;
    absent = record {
      in_range = in_range;
      below = λ j d l. ranked _ n _ (sym ((parted (ranks_rise n xs up)).0 j d (omega arith) l));
      above = λ j d le l. ranked _ n _ (sym ((parted (ranks_rise n xs up)).1 j d le l));
    };
  }

  -- the first records of a rising list rise
  below_take : (m k : ℕ) (xs : List R) → BelowFirst f m xs → BelowFirst f m (take k xs)
  below_take m zero xs h = tt
  below_take m (suc k) [] h = tt
  below_take m (suc k) (x ∷ xs) h = h

  pub rising_take : (k : ℕ) (xs : List R) → Rising f xs → Rising f (take k xs)
  rising_take zero xs r = tt
  rising_take (suc k) [] r = tt
  rising_take (suc k) (x ∷ xs) r = (below_take (f x) k xs r.0, rising_take k xs r.1)

  -- what is found among the first records stands there among all, and a gap among them is one among all where the others are above
  pub among_all : (n k : ℕ) (xs : List R) → k ≤ length xs → AllAbove f n k xs → (r : Result ℕ ℕ) → record { found : IfOk r (IsAt f n (take k xs)); absent : IfErr r (IsGapFor f n (take k xs)) } → record { found : IfOk r (IsAt f n xs); absent : IfErr r (IsGapFor f n xs) }
  among_all n k xs le others (Ok i) s =
      let low : i < k = omega (arith, s.found.in_range, length-take-le k xs le) in
      record { found = record { in_range = omega (arith, low, le); has_number = λ d. subst (λ y. f y ≡ n) (get_or-take k xs i d low) (s.found.has_number d) }; absent = tt }
  among_all n k xs le others (Err i) s =
      let few = length-take-le k xs le in
      let low : i ≤ k = omega (arith, s.absent.in_range, few) in
      record {
        found = tt;
        absent = record {
          in_range = omega (arith, low, le);
          below = λ j d l. subst (λ y. f y < n) (get_or-take k xs j d (omega (arith, low, l))) (s.absent.below j d l);
          above = λ j d l m. grind (arith, λ (h : k ≤ j). others j d h m, λ (h : j < k). subst (λ y. n < f y) (get_or-take k xs j d h) (s.absent.above j d l (omega (arith, few, h))));
        };
      }

  -- what is past a record that is not below n is above it
  pub past_front : (n k : ℕ) (xs : List R) (y : R) → Rising f xs → 1 ≤ k → k < length xs → y ≡ get_or xs (k - 1) y → n ≤ f y → AllAbove f n k xs
  past_front n k xs y r one few same high j d l m =
      let at : y ≡ get_or xs (k - 1) d = same ∙ get_or_default xs (k - 1) y d (omega (arith, one, few)) in
      omega (arith, high, ap f at, rising_lt xs r (k - 1) j d (omega (arith, one, l)) m)

  -- what a place in a list says of its tail
  at_tail : (n : ℕ) (y : R) (ys : List R) (i : ℕ) → IsAt f n (y ∷ ys) (suc i) → IsAt f n ys i
  at_tail n y ys i a = record { in_range = omega (arith, a.in_range); has_number = a.has_number }

  gap_tail : (n : ℕ) (y : R) (ys : List R) (i : ℕ) → IsGapFor f n (y ∷ ys) (suc i) → IsGapFor f n ys i
  gap_tail n y ys i g = record { in_range = omega (arith, g.in_range); below = λ j d l. g.below (suc j) d (omega arith); above = λ j d le l. g.above (suc j) d (omega arith) (omega arith) }

  -- the first number of a rising list is below the one further on
  first_below : (n : ℕ) (y : R) (ys : List R) (i : ℕ) → Rising f (y ∷ ys) → IsAt f n (y ∷ ys) (suc i) → f y < n
  first_below n y ys i r a = subst (λ k. f y < k) (a.has_number y) (below_each (f y) ys r.0 r.1 i y (omega (arith, a.in_range)))

  pub found_at : (n : ℕ) (xs : List R) (i : ℕ) (d : R) → Rising f xs → IsAt f n xs i → found f n xs ≡ Ok (get_or xs i d)
  found_at n [] i d r a = absurd (omega (arith, a.in_range))
  found_at n (y ∷ ys) zero d r a = grind (arith, nat_tests, a.has_number d)
  found_at n (y ∷ ys) (suc i) d r a = grind (arith, nat_tests, first_below n y ys i r a, found_at n ys i d r.1 (at_tail n y ys i a))

  pub none_found : (n : ℕ) (xs : List R) (i : ℕ) → IsGapFor f n xs i → found f n xs ≡ Err NoSuchNumber
  none_found n [] i g = refl
  none_found n (y ∷ ys) zero g = grind (arith, nat_tests, g.above 0 y, none_found n ys zero record { in_range = omega arith; below = λ j d l. absurd (omega arith); above = λ j d le l. g.above (suc j) d (omega arith) (omega arith) })
  none_found n (y ∷ ys) (suc i) g = grind (arith, nat_tests, g.below 0 y, none_found n ys i (gap_tail n y ys i g))

  module _ (x : R) where
    pub replaced_at : (xs : List R) (i : ℕ) → Rising f xs → IsAt f (f x) xs i → replaced f x xs ≡ set xs i x
    replaced_at [] i r a = absurd (omega (arith, a.in_range))
    replaced_at (y ∷ ys) zero r a = grind (arith, nat_tests, a.has_number y)
    replaced_at (y ∷ ys) (suc i) r a = grind (arith, nat_tests, first_below (f x) y ys i r a, replaced_at ys i r.1 (at_tail (f x) y ys i a))

    pub in_order_at : (xs : List R) (i : ℕ) → IsGapFor f (f x) xs i → in_order f x xs ≡ insert xs i x
    in_order_at [] zero g = refl
    in_order_at [] (suc i) g = absurd (omega (arith, g.in_range))
    in_order_at (y ∷ ys) zero g = grind (arith, nat_tests, g.above 0 y)
    in_order_at (y ∷ ys) (suc i) g = grind (arith, nat_tests, g.below 0 y, in_order_at ys i (gap_tail (f x) y ys i g))

    below_set : (n : ℕ) (xs : List R) (i : ℕ) → IsAt f (f x) xs i → BelowFirst f n xs → BelowFirst f n (set xs i x)
    below_set n [] i a h = absurd (omega (arith, a.in_range))
    below_set n (y ∷ ys) zero a h = subst (λ k. n < k) (a.has_number y) h
    below_set n (y ∷ ys) (suc i) a h = h

    -- a record with the same number keeps the order
    pub set_rises : (xs : List R) (i : ℕ) → IsAt f (f x) xs i → Rising f xs → Rising f (set xs i x)
    set_rises [] i a r = absurd (omega (arith, a.in_range))
    set_rises (y ∷ ys) zero a r = (subst (λ k. BelowFirst f k ys) (a.has_number y) r.0, r.1)
    set_rises (y ∷ ys) (suc i) a r = (below_set (f y) ys i (at_tail (f x) y ys i a) r.0, set_rises ys i (at_tail (f x) y ys i a) r.1)

    below_insert : (n : ℕ) (xs : List R) (i : ℕ) → n < f x → i ≤ length xs → BelowFirst f n xs → BelowFirst f n (insert xs i x)
    below_insert n xs zero l m h = l
    below_insert n [] (suc i) l m h = absurd (omega arith)
    below_insert n (y ∷ ys) (suc i) l m h = h

    -- a record in the gap for its number keeps the order
    pub insert_rises : (xs : List R) (i : ℕ) → IsGapFor f (f x) xs i → Rising f xs → Rising f (insert xs i x)
    insert_rises [] zero g r = (tt, tt)
    insert_rises [] (suc i) g r = absurd (omega (arith, g.in_range))
    insert_rises (y ∷ ys) zero g r = (g.above 0 y (omega arith) (omega arith), r)
    insert_rises (y ∷ ys) (suc i) g r = (below_insert (f y) ys i (g.below 0 y (omega arith)) (omega (arith, g.in_range)) r.0, insert_rises ys i (gap_tail (f x) y ys i g) r.1)
