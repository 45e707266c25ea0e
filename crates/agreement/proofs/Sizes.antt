-- A book whose figures are within their limits has gas that the schedules compare, and shares that fit. Assumes nothing.
use Rattle.std.proofs.Common.{◌≡◌, ℕ, suc, ◌+◌, ◌-◌, ◌*◌, ◌≤◌, true, leb, List, [], ◌∷◌, length, ℤ, pos, ◌+ℤ◌, ◌-ℤ◌, ◌*ℤ◌, nat_abs, sum_by, sym, subst, ⊎_elim, mul-le-mul, arith, lit≤}
use Rattle.std.specs.List.{AllByRecursion}
use Rattle.std.proofs.ByRecursion.{All-get_or, All-weaker, sum_by_le}
use Rattle.std.proofs.lemmas.List.{get_or_past}
use Rattle.std.proofs.lemmas.Int.{ints}
use Rattle.std.proofs.lemmas.Bool.{cases_lt, le-leb, leb-true, and_from, and_parts}
use Rattle.schedule.specs.declared.line.Line.{Line}
use Rattle.schedule.specs.Lines.{within_limits}
use Rattle.schedule.specs.Answers.{in_range}
use Rattle.schedule.proofs.Products.{nat_abs_mul_le}
use Rattle.schedule.specs.declared.gas.Gas.{Gas}
use Rattle.agreement.specs.declared.day.Day.{Day}
use Rattle.agreement.specs.Book.{Book, Member, blank, therms_of}
use Rattle.agreement.specs.Limits.{most_members, most_therms, most_day_gas, most_month_gas, most_pool_gas}
use Rattle.rules.specs.Days.{most_days}
use Rattle.agreement.specs.Gases.{delivered_gas, net_received_gas, day_of, used_gas, nominated_gas, for_month, for_day, total}
use Rattle.agreement.specs.Shares.{amount_on}
use Rattle.agreement.specs.Sizes.{SmallDay, SmallMember, SmallBook, Sized}

less : (a b n : ℕ) → a ≤ n → b ≤ n → nat_abs (pos a -ℤ pos b) ≤ n
less a b n h k = omega (arith, ints)

sum-most : (f : Day → ℕ) (m : Member) → SmallMember m → AllByRecursion (λ d. f d ≤ most_therms) m.days → sum_by f m.days ≤ most_days * most_therms
sum-most f m s h =
    let p = sum_by_le f most_therms m.days h in
    omega (arith, s.few_days)

pub delivered_most : (m : Member) → SmallMember m → delivered_gas m ≤ most_month_gas
delivered_most m s =
    let p = sum-most (λ d. therms_of d.reading) m s (All-weaker SmallDay (λ d. therms_of d.reading ≤ most_therms) (λ d k. k.read_most) m.days s.days_small) in
    omega arith

pub received_most : (m : Member) → SmallMember m → net_received_gas m ≤ most_month_gas
received_most m s =
    let p = sum-most (λ d. d.received) m s (All-weaker SmallDay (λ d. d.received ≤ most_therms) (λ d k. k.received_most) m.days s.days_small) in
    let k : 1000 - m.retention ≤ 1000 = omega arith in
    let q = mul-le-mul k p in
    omega arith

pub month_sized : (m : Member) → SmallMember m → Sized most_month_gas (for_month m)
month_sized m s =
    record { difference_most = less (delivered_gas m) (net_received_gas m) most_month_gas (delivered_most m s) (received_most m s); base_most = delivered_most m s }

-- a day past the month is blank
blank_small : SmallDay blank
blank_small = record { nominated_most = lit≤ tt; read_most = lit≤ tt; received_most = lit≤ tt }

day_small : (day : ℕ) (m : Member) → SmallMember m → SmallDay (day_of day m)
day_small day m s =
    ⊎_elim (λ l. All-get_or SmallDay m.days (day - 1) blank l s.days_small) (λ l. subst SmallDay (sym (get_or_past m.days (day - 1) blank l)) blank_small) (cases_lt (day - 1) (length m.days))

pub day_sized : (day : ℕ) (m : Member) → SmallMember m → Sized most_day_gas (for_day day m)
day_sized day m s =
    let d = day_small day m s in
    let u : used_gas (day_of day m) ≤ most_day_gas = omega (arith, d.read_most) in
    let n : nominated_gas (day_of day m) ≤ most_day_gas = omega (arith, d.nominated_most) in
    record { difference_most = less (used_gas (day_of day m)) (nominated_gas (day_of day m)) most_day_gas u n; base_most = n }

-- ---- a pool's gas is in range
nat_abs_add_le : (x y : ℤ) → nat_abs (x +ℤ y) ≤ nat_abs x + nat_abs y
nat_abs_add_le x y = omega (arith, ints)

total_sized : (gas : Member → Gas) (n : ℕ) (ms : List Member) → AllByRecursion (λ m. Sized n (gas m)) ms → Sized (length ms * n) (total gas ms)
total_sized gas n [] h = record { difference_most = omega arith; base_most = omega arith }
total_sized gas n (m ∷ ms) h =
    let r = total_sized gas n ms h.1 in
    record { difference_most = more (gas m).difference (total gas ms).difference n (length ms) h.0.difference_most r.difference_most; base_most = omega (arith, h.0.base_most, r.base_most) }
  where
    more : (x y : ℤ) (n k : ℕ) → nat_abs x ≤ n → nat_abs y ≤ k * n → nat_abs (x +ℤ y) ≤ suc k * n
    more x y n k h j = omega (arith, nat_abs_add_le x y)

sized_in_range : (n : ℕ) (g : Gas) → Sized n g → n ≤ most_pool_gas → in_range g.difference g.base ≡ true
sized_in_range n g s h =
    let p : nat_abs g.difference ≤ 62000000000 = omega (arith, s.difference_most) in
    let q : g.base ≤ 62000000000 = omega (arith, s.base_most) in
    and_from (leb (nat_abs g.difference) 62000000000) (leb g.base 62000000000) (le-leb _ _ p) (le-leb _ _ q)

total_in_range : (gas : Member → Gas) (n : ℕ) (book : Book) → n ≤ most_month_gas → SmallBook book → ((m : Member) → SmallMember m → Sized n (gas m)) → in_range (total gas book.members).difference (total gas book.members).base ≡ true
total_in_range gas n book h s f =
    let k : length book.members * n ≤ most_members * most_month_gas = mul-le-mul s.few_members h in
    sized_in_range (length book.members * n) (total gas book.members) (total_sized gas n book.members (All-weaker SmallMember (λ m. Sized n (gas m)) f book.members s.members_small)) k

pub month_in_range : (book : Book) → SmallBook book → in_range (total for_month book.members).difference (total for_month book.members).base ≡ true
month_in_range book s = total_in_range for_month most_month_gas book (lit≤ tt) s month_sized

pub day_in_range : (day : ℕ) (book : Book) → SmallBook book → in_range (total (for_day day) book.members).difference (total (for_day day) book.members).base ≡ true
day_in_range day book s = total_in_range (for_day day) most_day_gas book (lit≤ tt) s (day_sized day)

-- ---- what a line gives on it
pub amount_small : (n : ℕ) (g : Gas) (l : Line) → within_limits l ≡ true → Sized n g → nat_abs (amount_on g l) ≤ 30000000 * n
amount_small n g l w s =
    let t = and_parts (leb (nat_abs l.a) 24000000) (leb (nat_abs l.b) 6000000) w in
    let p = nat_abs_mul_le l.a g.difference 24000000 n (leb-true _ _ t.0) s.difference_most in
    let q = nat_abs_mul_le l.b (pos g.base) 6000000 n (leb-true _ _ t.1) s.base_most in
    let r = nat_abs_add_le (l.a *ℤ g.difference) (l.b *ℤ pos g.base) in
    omega arith
