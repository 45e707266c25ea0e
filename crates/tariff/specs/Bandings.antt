-- The lines of a ladder give the banded amount: proved once for all tables whose edges and percentages rise (short gas)
-- or whose percentages fall (long gas). Assumes nothing.
use Rattle.std.proofs.Common.{◌≡◌, ℕ, zero, suc, ◌+◌, ◌-◌, ◌*◌, ◌<◌, ◌≤◌, min, ◌⊎◌, List, [], ◌∷◌, ◌++◌, ℤ, pos, negsuc, ◌+ℤ◌, ◌*ℤ◌, neg_ℤ, ◌≤ℤ◌, refl, ap, ◌∙◌, subst, inl, inr, ⊎_elim, mul-le-mul_right, mul-le-mul_left, zero-mul, arith, lit≤}
use Rattle.std.specs.List.{AllByRecursion}
use Rattle.std.proofs.ByRecursion.{All-append}
use Rattle.std.proofs.lemmas.Int.{ints}
use Rattle.std.proofs.lemmas.Bool.{cases_lt}
use Rattle.schedule.specs.declared.line.Line.{Line}
use Rattle.schedule.specs.Lines.{amount}
use Rattle.schedule.specs.Charges.{charge}
use Rattle.schedule.proofs.Greatest.{Gives, charge_is}
use Rattle.tariff.specs.declared.ladder.Bands.{Bands}
use Rattle.tariff.specs.declared.ladder.Bands.TheVariants.{Six, Four}
use Rattle.tariff.specs.Tables.{Band, band, short_bands, long_bands}
use Rattle.tariff.specs.BandLines.{band_line, change, offset_of, band_lines, ladder_lines}
use Rattle.tariff.specs.Banded.{parts, banded}

-- ---- tables
-- the bands that follow a band begin at its edge or further up
abbrev Ascending : ℕ → List Band → Type 0
Ascending e [] = Unit {0}
Ascending e (b ∷ bs) = (e ≤ b.from) × Ascending b.from bs

-- and have its percentage or more
abbrev Rising : ℕ → List Band → Type 0
Rising p [] = Unit {0}
Rising p (b ∷ bs) = (p ≤ b.percent) × Rising b.percent bs

-- or its percentage or less
abbrev Falling : ℕ → List Band → Type 0
Falling p [] = Unit {0}
Falling p (b ∷ bs) = (b.percent ≤ p) × Falling b.percent bs

-- the bands of both sides above the first, which is at 100 percent
pub record Graded (ss ls : List Band) : Type 0 where
  pub short_edges : Ascending 0 ss
  pub long_edges : Ascending 0 ls
  pub rises : Rising 10 ss
  pub falls : Falling 10 ls

-- ---- the parts, by what lies above each edge
-- what the changes of percentage come to: each on all that lies above its edge
abbrev excess : ℕ → List Band → ℕ → ℕ → ℕ
excess p [] m y = 0
excess p (b ∷ bs) m y = change p b.percent * (y - b.from * m) + excess b.percent bs m y

telescope : (y lo hi : ℕ) → lo ≤ hi → (min y hi - lo) + (y - hi) ≡ y - lo
telescope y lo hi h = omega arith

-- under rising percentages the excess is added, under falling ones it is taken off
parts_rising : (lo p : ℕ) (bs : List Band) (m y : ℕ) → Ascending lo bs → Rising p bs → parts (band lo p ∷ bs) m y ≡ p * (y - lo * m) + excess p bs m y
parts_rising lo p [] m y a r = omega arith
parts_rising lo p (b ∷ bs) m y a r =
    join p b.percent (min y (b.from * m) - lo * m) (y - b.from * m) (y - lo * m) (parts (b ∷ bs) m y) (excess b.percent bs m y) r.0 (parts_rising b.from b.percent bs m y a.1 r.1) (telescope y (lo * m) (b.from * m) (mul-le-mul_right m a.0))
  where
    by_rise : (p δ u t v w e : ℕ) → w ≡ (p + δ) * t + e → u + t ≡ v → p * u + w ≡ p * v + (δ * t + e)
    by_rise p δ u t v w e h k = omega (arith, ap (λ x. p * x) k)

    join : (p q u t v w e : ℕ) → p ≤ q → w ≡ q * t + e → u + t ≡ v → p * u + w ≡ p * v + (change p q * t + e)
    join p q u t v w e l h k =
        let s : q ≡ p + change p q = omega arith in
        by_rise p (change p q) u t v w e (h ∙ ap (λ x. x * t + e) s) k

parts_falling : (lo p : ℕ) (bs : List Band) (m y : ℕ) → Ascending lo bs → Falling p bs → parts (band lo p ∷ bs) m y + excess p bs m y ≡ p * (y - lo * m)
parts_falling lo p [] m y a r = omega arith
parts_falling lo p (b ∷ bs) m y a r =
    join p b.percent (min y (b.from * m) - lo * m) (y - b.from * m) (y - lo * m) (parts (b ∷ bs) m y) (excess b.percent bs m y) r.0 (parts_falling b.from b.percent bs m y a.1 r.1) (telescope y (lo * m) (b.from * m) (mul-le-mul_right m a.0))
  where
    by_fall : (q δ u t v w e : ℕ) → w + e ≡ q * t → u + t ≡ v → (q + δ) * u + w + (δ * t + e) ≡ (q + δ) * v
    by_fall q δ u t v w e h k = omega (arith, ap (λ x. (q + δ) * x) k)

    join : (p q u t v w e : ℕ) → q ≤ p → w + e ≡ q * t → u + t ≡ v → p * u + w + (change p q * t + e) ≡ p * v
    join p q u t v w e l h k =
        let s : q + change p q ≡ p = omega arith in
        subst (λ x. x * u + w + (change p q * t + e) ≡ x * v) s (by_fall q (change p q) u t v w e h k)

-- below its edge, a band and those after it add nothing
no_excess : (p e : ℕ) (bs : List Band) (m y : ℕ) → Ascending e bs → y ≤ e * m → excess p bs m y ≡ 0
no_excess p e [] m y a h = refl
no_excess p e (b ∷ bs) m y a h =
    let k : y ≤ b.from * m = omega (arith, mul-le-mul_right m a.0) in
    nothing (change p b.percent) (y - b.from * m) (excess b.percent bs m y) (omega arith) (no_excess b.percent b.from bs m y a.1 k)
  where
    nothing : (δ t e : ℕ) → t ≡ 0 → e ≡ 0 → δ * t + e ≡ 0
    nothing δ t e h k = omega (arith, ap (λ x. δ * x) h)

-- ---- the lines, each from the one before
neg_times : (x m : ℕ) → neg_ℤ (pos x) *ℤ pos m ≡ neg_ℤ (pos (x * m))
neg_times zero m = rw zero-mul
neg_times (suc x) m = refl

short_is : (P q o n m : ℕ) → amount (pos n) m (band_line P q o) ≡ pos (40 * q * P * n) +ℤ neg_ℤ (pos (P * o * m))
short_is P q o n m = ap (λ z. pos (40 * q * P * n) +ℤ z) (neg_times (P * o) m)

long_is : (P q o k m : ℕ) → amount (negsuc k) m (band_line P q o) ≡ neg_ℤ (pos (40 * q * P * suc k)) +ℤ neg_ℤ (pos (P * o * m))
long_is P q o k m = ap (λ z. neg_ℤ (pos (40 * q * P * suc k)) +ℤ z) (neg_times (P * o) m)

-- a band's line gives more than the one before by the change of percentage on what lies above its edge, which may be negative
abbrev Climb : ℤ → ℕ → ℕ → ℕ → ℕ → ℕ → Band → Type 0
Climb d m y P p o b =
    amount d m (band_line P b.percent (offset_of p o b)) +ℤ pos (P * change p b.percent * (b.from * m)) ≡ amount d m (band_line P p o) +ℤ pos (P * change p b.percent * y)

abbrev Climbs : ℤ → ℕ → ℕ → ℕ → ℕ → ℕ → List Band → Type 0
Climbs d m y P p o [] = Unit {0}
Climbs d m y P p o (b ∷ bs) = Climb d m y P p o b × Climbs d m y P b.percent (offset_of p o b) bs

climbs_short : (n m P p o : ℕ) (bs : List Band) → Rising p bs → Climbs (pos n) m (40 * n) P p o bs
climbs_short n m P p o [] r = tt
climbs_short n m P p o (b ∷ bs) r =
    (climb p b.percent (change p b.percent) o b.from (omega (arith, r.0)), climbs_short n m P b.percent (offset_of p o b) bs r.1)
  where
    level : (v w : ℤ) (a b c f x y : ℕ) → v ≡ pos a +ℤ neg_ℤ (pos b) → w ≡ pos c +ℤ neg_ℤ (pos f) → c + b + x ≡ a + f + y → w +ℤ pos x ≡ v +ℤ pos y
    level v w a b c f x y h k l = omega (arith, ints)

    climb : (p q δ o e : ℕ) → q ≡ p + δ → amount (pos n) m (band_line P q (o + e * δ)) +ℤ pos (P * δ * (e * m)) ≡ amount (pos n) m (band_line P p o) +ℤ pos (P * δ * (40 * n))
    climb p q δ o e s =
        level _ _ (40 * p * P * n) (P * o * m) (40 * q * P * n) (P * (o + e * δ) * m) (P * δ * (e * m)) (P * δ * (40 * n)) (short_is P p o n m) (short_is P q (o + e * δ) n m) (omega (arith, ap (λ x. 40 * x * P * n) s))

climbs_long : (k m P p o : ℕ) (bs : List Band) → Falling p bs → Climbs (negsuc k) m (40 * suc k) P p o bs
climbs_long k m P p o [] r = tt
climbs_long k m P p o (b ∷ bs) r =
    (climb p b.percent (change p b.percent) o b.from (omega (arith, r.0)), climbs_long k m P b.percent (offset_of p o b) bs r.1)
  where
    level : (v w : ℤ) (a b c f x y : ℕ) → v ≡ neg_ℤ (pos a) +ℤ neg_ℤ (pos b) → w ≡ neg_ℤ (pos c) +ℤ neg_ℤ (pos f) → a + b + x ≡ c + f + y → w +ℤ pos x ≡ v +ℤ pos y
    level v w a b c f x y h k l = omega (arith, ints)

    climb : (p q δ o e : ℕ) → q + δ ≡ p → amount (negsuc k) m (band_line P q (o + e * δ)) +ℤ pos (P * δ * (e * m)) ≡ amount (negsuc k) m (band_line P p o) +ℤ pos (P * δ * (40 * suc k))
    climb p q δ o e s =
        level _ _ (40 * p * P * suc k) (P * o * m) (40 * q * P * suc k) (P * (o + e * δ) * m) (P * δ * (e * m)) (P * δ * (40 * suc k)) (long_is P p o k m) (long_is P q (o + e * δ) k m) (omega (arith, ap (λ x. 40 * x * P * suc k) s))

-- ---- the greatest of the lines
-- no line gives more than the first with all the excess
none_above : (d : ℤ) (m y P p o : ℕ) (z : ℤ) (bs : List Band) → Climbs d m y P p o bs → (amount d m (band_line P p o) +ℤ pos (P * excess p bs m y)) ≤ℤ z → AllByRecursion (λ l. amount d m l ≤ℤ z) (band_lines P p o bs)
none_above d m y P p o z [] c h = tt
none_above d m y P p o z (b ∷ bs) c h =
    let next = amount d m (band_line P b.percent (offset_of p o b)) in
    let rest = excess b.percent bs m y in
    let k = step (amount d m (band_line P p o)) next z (change p b.percent) (b.from * m) rest c.0 h in
    (under next (P * rest) z k, none_above d m y P b.percent (offset_of p o b) z bs c.1 k)
  where
    step : (v w z : ℤ) (δ x e : ℕ) → w +ℤ pos (P * δ * x) ≡ v +ℤ pos (P * δ * y) → (v +ℤ pos (P * (δ * (y - x) + e))) ≤ℤ z → (w +ℤ pos (P * e)) ≤ℤ z
    step v w z δ x e s h =
        let t : y ≤ (y - x) + x = omega arith in
        omega (arith, ints, mul-le-mul_left (P * δ) t)

    under : (w : ℤ) (e : ℕ) (z : ℤ) → (w +ℤ pos e) ≤ℤ z → w ≤ℤ z
    under w e z h = omega (arith, ints)

-- and one line gives as much: the last whose edge lies below the quantity
one_gives : (d : ℤ) (m y P p o e : ℕ) (z : ℤ) (bs : List Band) → Ascending e bs → Climbs d m y P p o bs → amount d m (band_line P p o) +ℤ pos (P * excess p bs m y) ≡ z → (amount d m (band_line P p o) ≡ z) ⊎ Gives d m z (band_lines P p o bs)
one_gives d m y P p o e z [] a c h = inl (omega (arith, ints))
one_gives d m y P p o e z (b ∷ bs) a c h =
    ⊎_elim (λ l. inr (one_gives d m y P b.percent (offset_of p o b) b.from z bs a.1 c.1 (step (amount d m (band_line P p o)) (amount d m (band_line P b.percent (offset_of p o b))) (change p b.percent) (b.from * m) (excess b.percent bs m y) l c.0 h))) (λ l. inl (none (amount d m (band_line P p o)) (excess p (b ∷ bs) m y) (no_excess p b.from (b ∷ bs) m y (omega arith, a.1) l) h)) (cases_lt (b.from * m) y)
  where
    none : (v : ℤ) (x : ℕ) → x ≡ 0 → v +ℤ pos (P * x) ≡ z → v ≡ z
    none v x s h = omega (arith, ints, ap (λ x. P * x) s)

    step : (v w : ℤ) (δ x e : ℕ) → x < y → w +ℤ pos (P * δ * x) ≡ v +ℤ pos (P * δ * y) → v +ℤ pos (P * (δ * (y - x) + e)) ≡ z → w +ℤ pos (P * e) ≡ z
    step v w δ x e l s h =
        let t : y ≡ (y - x) + x = omega arith in
        omega (arith, ints, ap (λ q. P * δ * q) t)

-- ---- the other side's lines, which never fix the charge
short_above_long : (P p o n m w : ℕ) (bs : List Band) → p ≤ 10 → Falling p bs → P * (10 * (40 * n)) ≤ w → AllByRecursion (λ l. amount (pos n) m l ≤ℤ pos w) (band_lines P p o bs)
short_above_long P p o n m w [] h r k = tt
short_above_long P p o n m w (b ∷ bs) h r k =
    let l : b.percent ≤ 10 = omega (arith, r.0) in
    (at_most b.percent (offset_of p o b) l, short_above_long P b.percent (offset_of p o b) n m w bs l r.1 k)
  where
    at_most : (q o : ℕ) → q ≤ 10 → amount (pos n) m (band_line P q o) ≤ℤ pos w
    at_most q o l = omega (arith, ints, short_is P q o n m, mul-le-mul_right (P * (40 * n)) l)

long_above_short : (P p o k m w : ℕ) (bs : List Band) → 10 ≤ p → Rising p bs → w ≤ P * (10 * (40 * suc k)) → AllByRecursion (λ l. amount (negsuc k) m l ≤ℤ neg_ℤ (pos w)) (band_lines P p o bs)
long_above_short P p o k m w [] h r j = tt
long_above_short P p o k m w (b ∷ bs) h r j =
    let l : 10 ≤ b.percent = omega (arith, r.0) in
    (at_most b.percent (offset_of p o b) l, long_above_short P b.percent (offset_of p o b) k m w bs l r.1 j)
  where
    at_most : (q o : ℕ) → 10 ≤ q → amount (negsuc k) m (band_line P q o) ≤ℤ neg_ℤ (pos w)
    at_most q o l = omega (arith, ints, long_is P q o k m, mul-le-mul_right (P * (40 * suc k)) l)

-- ---- both sides
gives_left : (d : ℤ) (m : ℕ) (z : ℤ) (xs ys : List Line) → Gives d m z xs → Gives d m z (xs ++ ys)
gives_left d m z [] ys g = absurd g
gives_left d m z (x ∷ xs) ys (inl e) = inl e
gives_left d m z (x ∷ xs) ys (inr g) = inr (gives_left d m z xs ys g)

gives_right : (d : ℤ) (m : ℕ) (z : ℤ) (xs ys : List Line) → Gives d m z ys → Gives d m z (xs ++ ys)
gives_right d m z [] ys g = g
gives_right d m z (x ∷ xs) ys g = inr (gives_right d m z xs ys g)

-- a ladder whose first bands are at 100 percent charges the banded amount on short gas
short_gas : (A L n m : ℕ) (ss ls : List Band) → L ≤ A → Graded ss ls → charge (pos n) m (band_lines A 10 0 (band 0 10 ∷ ss) ++ band_lines L 10 0 (band 0 10 ∷ ls)) ≡ pos (A * parts (band 0 10 ∷ ss) m (40 * n))
short_gas A L n m ss ls h t =
    let a = t.short_edges in
    let r = t.rises in
    let f = t.falls in
    let y = 40 * n in
    let w = A * parts (band 0 10 ∷ ss) m y in
    let c = climbs_short n m A 10 0 ss r in
    let whole = total (parts (band 0 10 ∷ ss) m y) (excess 10 ss m y) (parts_rising 0 10 ss m y a r) in
    let first = amount (pos n) m (band_line A 10 0) in
    let all = none_above (pos n) m y A 10 0 (pos w) ss c (same first (A * excess 10 ss m y) (pos w) whole).1 in
    let low = lower (parts (band 0 10 ∷ ss) m y) (excess 10 ss m y) (parts_rising 0 10 ss m y a r) in
    charge_is (pos n) m (pos w) (band_lines A 10 0 (band 0 10 ∷ ss) ++ band_lines L 10 0 (band 0 10 ∷ ls)) (All-append (λ l. amount (pos n) m l ≤ℤ pos w) (band_lines A 10 0 (band 0 10 ∷ ss)) (band_lines L 10 0 (band 0 10 ∷ ls)) ((same first (A * excess 10 ss m y) (pos w) whole).0, all) (short_above_long L 10 0 n m w (band 0 10 ∷ ls) (omega arith) (omega arith, f) low)) (gives_left (pos n) m (pos w) (band_lines A 10 0 (band 0 10 ∷ ss)) _ (one_gives (pos n) m y A 10 0 0 (pos w) ss a c whole))
  where
    sum_is : (v : ℤ) (a b x c : ℕ) → v ≡ pos a +ℤ neg_ℤ (pos b) → b ≡ 0 → a + x ≡ c → v +ℤ pos x ≡ pos c
    sum_is v a b x c h k l = omega (arith, ints)

    total : (w e : ℕ) → w ≡ 10 * (40 * n - 0 * m) + e → amount (pos n) m (band_line A 10 0) +ℤ pos (A * e) ≡ pos (A * w)
    total w e s =
        let t : w ≡ 10 * (40 * n) + e = omega arith in
        sum_is (amount (pos n) m (band_line A 10 0)) (40 * 10 * A * n) (A * 0 * m) (A * e) (A * w) (short_is A 10 0 n m) (omega arith) (omega (arith, ap (λ x. A * x) t))

    lower : (w e : ℕ) → w ≡ 10 * (40 * n - 0 * m) + e → L * (10 * (40 * n)) ≤ A * w
    lower w e s =
        let t : w ≡ 10 * (40 * n) + e = omega arith in
        omega (arith, ap (λ x. A * x) t, mul-le-mul_right (10 * (40 * n)) h)

    same : (v : ℤ) (e : ℕ) (z : ℤ) → v +ℤ pos e ≡ z → (v ≤ℤ z) × ((v +ℤ pos e) ≤ℤ z)
    same v e z h = (omega (arith, ints), omega (arith, ints))

-- and on long gas
long_gas : (A L k m : ℕ) (ss ls : List Band) → L ≤ A → Graded ss ls → charge (negsuc k) m (band_lines A 10 0 (band 0 10 ∷ ss) ++ band_lines L 10 0 (band 0 10 ∷ ls)) ≡ neg_ℤ (pos (L * parts (band 0 10 ∷ ls) m (40 * suc k)))
long_gas A L k m ss ls h t =
    let a = t.long_edges in
    let r = t.rises in
    let f = t.falls in
    let y = 40 * suc k in
    let w = L * parts (band 0 10 ∷ ls) m y in
    let z = neg_ℤ (pos w) in
    let c = climbs_long k m L 10 0 ls f in
    let whole = total (parts (band 0 10 ∷ ls) m y) (excess 10 ls m y) (parts_falling 0 10 ls m y a f) in
    let first = amount (negsuc k) m (band_line L 10 0) in
    let all = none_above (negsuc k) m y L 10 0 z ls c (same first (L * excess 10 ls m y) z whole).1 in
    let low = lower (parts (band 0 10 ∷ ls) m y) (excess 10 ls m y) (parts_falling 0 10 ls m y a f) in
    charge_is (negsuc k) m z (band_lines A 10 0 (band 0 10 ∷ ss) ++ band_lines L 10 0 (band 0 10 ∷ ls)) (All-append (λ l. amount (negsuc k) m l ≤ℤ z) (band_lines A 10 0 (band 0 10 ∷ ss)) (band_lines L 10 0 (band 0 10 ∷ ls)) (long_above_short A 10 0 k m w (band 0 10 ∷ ss) (omega arith) (omega arith, r) low) ((same first (L * excess 10 ls m y) z whole).0, all)) (gives_right (negsuc k) m z (band_lines A 10 0 (band 0 10 ∷ ss)) (band_lines L 10 0 (band 0 10 ∷ ls)) (one_gives (negsuc k) m y L 10 0 0 z ls a c whole))
  where
    sum_is : (v : ℤ) (a b x c : ℕ) → v ≡ neg_ℤ (pos a) +ℤ neg_ℤ (pos b) → b ≡ 0 → a ≡ c + x → v +ℤ pos x ≡ neg_ℤ (pos c)
    sum_is v a b x c h k l = omega (arith, ints)

    total : (w e : ℕ) → w + e ≡ 10 * (40 * suc k - 0 * m) → amount (negsuc k) m (band_line L 10 0) +ℤ pos (L * e) ≡ neg_ℤ (pos (L * w))
    total w e s =
        let t : w + e ≡ 10 * (40 * suc k) = omega arith in
        sum_is (amount (negsuc k) m (band_line L 10 0)) (40 * 10 * L * suc k) (L * 0 * m) (L * e) (L * w) (long_is L 10 0 k m) (omega arith) (omega (arith, ap (λ x. L * x) t))

    lower : (w e : ℕ) → w + e ≡ 10 * (40 * suc k - 0 * m) → L * w ≤ A * (10 * (40 * suc k))
    lower w e s =
        let t : w + e ≡ 10 * (40 * suc k) = omega arith in
        omega (arith, ap (λ x. L * x) t, mul-le-mul_right (10 * (40 * suc k)) h)

    same : (v : ℤ) (e : ℕ) (z : ℤ) → v +ℤ pos e ≡ z → (v ≤ℤ z) × ((v +ℤ pos e) ≤ℤ z)
    same v e z h = (omega (arith, ints), omega (arith, ints))

-- the tariff's tables are such
abbrev above_first : List Band → List Band
above_first [] = []
above_first (b ∷ bs) = bs

graded : (bands : Bands) → Graded (above_first (short_bands bands)) (above_first (long_bands bands))
graded Six =
    record {
      short_edges = (lit≤ tt, (lit≤ tt, (lit≤ tt, (lit≤ tt, (lit≤ tt, tt)))));
      long_edges = (lit≤ tt, (lit≤ tt, (lit≤ tt, (lit≤ tt, (lit≤ tt, tt)))));
      rises = (lit≤ tt, (lit≤ tt, (lit≤ tt, (lit≤ tt, (lit≤ tt, tt)))));
      falls = (lit≤ tt, (lit≤ tt, (lit≤ tt, (lit≤ tt, (lit≤ tt, tt)))));
    }
graded Four =
    record {
      short_edges = (lit≤ tt, (lit≤ tt, (lit≤ tt, tt)));
      long_edges = (lit≤ tt, (lit≤ tt, (lit≤ tt, tt)));
      rises = (lit≤ tt, (lit≤ tt, (lit≤ tt, tt)));
      falls = (lit≤ tt, (lit≤ tt, (lit≤ tt, tt)));
    }

pub lines_are_bands : (bands : Bands) (average lowest : ℕ) → lowest ≤ average → (d : ℤ) (m : ℕ) → charge d m (ladder_lines bands average lowest) ≡ banded bands average lowest d m
lines_are_bands Six A L h (pos n) m = short_gas A L n m (above_first (short_bands Six)) (above_first (long_bands Six)) h (graded Six)
lines_are_bands Six A L h (negsuc k) m = long_gas A L k m (above_first (short_bands Six)) (above_first (long_bands Six)) h (graded Six)
lines_are_bands Four A L h (pos n) m = short_gas A L n m (above_first (short_bands Four)) (above_first (long_bands Four)) h (graded Four)
lines_are_bands Four A L h (negsuc k) m = long_gas A L k m (above_first (short_bands Four)) (above_first (long_bands Four)) h (graded Four)
