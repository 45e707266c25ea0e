-- The members of a table, by their places. Assumes nothing.
use Rattle.std.proofs.Common.{◌≡◌, ℕ, zero, suc, ◌+◌, ◌*◌, ◌<◌, ◌≤◌, List, [], ◌∷◌, length, get_or, take, drop, eqb, cond, position, Some, Option, sym, refl, ap, ◌∙◌, subst, ⊎_elim, inl, inr, lit≤, arith}
use Rattle.std.specs.List.{position_from}
use Rattle.std.proofs.lemmas.List.{drop-drop, length-take, length-take-le, get_or_past, length-drop, get_or-take, get_or-drop}
use Rattle.std.proofs.lemmas.Bool.{cases_lt}
use Rattle.std.proofs.lemmas.Iterator.Adapters.{position_from-zero}
use Rattle.agreement.specs.declared.day.Day.{Day}
use Rattle.agreement.specs.Book.{Book, Member, blank}
use Rattle.rules.specs.Days.{least_days, most_days}
use Rattle.agreement.specs.Limits.{most_members, most_retention}
use Rattle.agreement.specs.Sizes.{SmallDay, SmallMember}
use Rattle.pool.proofs.Small.{all_from_places}
use Rattle.pool.specs.declared.table.Enrolled.{Enrolled}
use Rattle.pool.specs.declared.table.Table.TheInside.{Inside}
use Rattle.pool.specs.Limits.{WithinLimits}
use Rattle.pool.specs.Members.{nobody}
use Rattle.pool.specs.Contents.{Sound, book_of, members_of, no_one}

-- the days of the member at a place
abbrev pub days_at : ℕ → List Day → ℕ → List Day
days_at n cells place = take n (drop (place * most_days) cells)

-- the member at a place
abbrev pub member_at : ℕ → List Enrolled → List Day → ℕ → Member
member_at n es cells place = record { account = (get_or es place no_one).account; retention = (get_or es place no_one).retention; days = days_at n cells place }

pub length-members_of : (n : ℕ) (es : List Enrolled) (cells : List Day) → length (members_of n es cells) ≡ length es
length-members_of n [] cells = refl
length-members_of n (e ∷ es) cells = ap suc (length-members_of n es (drop most_days cells))

pub get_or-members_of : (n : ℕ) (es : List Enrolled) (cells : List Day) (k : ℕ) (m : Member) → k < length es → get_or (members_of n es cells) k m ≡ member_at n es cells k
get_or-members_of n [] cells k m lt = absurd (omega arith)
get_or-members_of n (e ∷ es) cells zero m lt = refl
get_or-members_of n (e ∷ es) cells (suc k) m lt =
    let next : most_days + k * most_days ≡ suc k * most_days = omega arith in
    get_or-members_of n es (drop most_days cells) k m (omega arith)
    ∙ ap (λ (days : List Day). record { account = (get_or es k no_one).account; retention = (get_or es k no_one).retention; days = take n days }) (drop-drop (k * most_days) most_days cells ∙ ap (λ (i : ℕ). drop i cells) next)

position_members_of : (n a i : ℕ) (es : List Enrolled) (cells : List Day) → position_from (λ (m : Member). eqb m.account a) i (members_of n es cells) ≡ position_from (λ (e : Enrolled). eqb e.account a) i es
position_members_of n a i [] cells = refl
position_members_of n a i (e ∷ es) cells = ap (λ (o : Option ℕ). cond (eqb e.account a) (Some i) o) (position_members_of n a (i + 1) es (drop most_days cells))

-- the first member with an account is the first enrolment with it
pub same_place : (n a : ℕ) (es : List Enrolled) (cells : List Day) → position (λ (e : Enrolled). eqb e.account a) es ≡ position (λ (m : Member). eqb m.account a) (members_of n es cells)
same_place n a es cells =
    position_from-zero (λ (e : Enrolled). eqb e.account a) es
    ∙ sym (position_members_of n a 0 es cells)
    ∙ sym (position_from-zero (λ (m : Member). eqb m.account a) (members_of n es cells))

pub blank_small : SmallDay blank
blank_small = record { nominated_most = lit≤ tt; read_most = lit≤ tt; received_most = lit≤ tt }

module _ (t : Inside) (sound : Sound t) where
  pub length-days_at : (place : ℕ) → place < length t.members.items → length (days_at t.days.count t.cells place) ≡ t.days.count
  length-days_at place lt =
      let l = length-drop (place * most_days) t.cells in
      length-take-le t.days.count (drop (place * most_days) t.cells) (omega (arith, sound.cells, sound.few, t.days.most))

  pub small_at : (place : ℕ) → place < length t.members.items → SmallMember (member_at t.days.count t.members.items t.cells place)
  small_at place lt =
      let l = length-days_at place lt in
      record {
        few_days = omega (arith, t.days.most);
        days_small = all_from_places SmallDay blank (days_at t.days.count t.cells place)
            (λ k h. rw (get_or-take t.days.count (drop (place * most_days) t.cells) k blank (omega arith)) (rw (get_or-drop (place * most_days) t.cells k blank) (sound.small (place * most_days + k))));
      }

  -- a day of a member, past the month's end too
  small_day : (i k : ℕ) → SmallDay (get_or (days_at t.days.count t.cells i) k blank)
  small_day i k =
      ⊎_elim
      (λ (lt : k < t.days.count). subst SmallDay (sym (get_or-take t.days.count (drop (i * most_days) t.cells) k blank lt ∙ get_or-drop (i * most_days) t.cells k blank)) (sound.small (i * most_days + k)))
      (λ (le : t.days.count ≤ k). subst SmallDay (sym (get_or_past (days_at t.days.count t.cells i) k blank (omega (arith, length-take t.days.count (drop (i * most_days) t.cells))))) blank_small)
      (cases_lt k t.days.count)

  module _ (b : Book) (view : book_of t ≡ b) where
    pub count_is : length t.members.items ≡ length b.members
    count_is = sym (length-members_of t.days.count t.members.items t.cells) ∙ ap (λ (x : Book). length x.members) view

    pub member_is : (place : ℕ) → place < length t.members.items → member_at t.days.count t.members.items t.cells place ≡ get_or b.members place nobody
    member_is place lt = sym (get_or-members_of t.days.count t.members.items t.cells place nobody lt) ∙ ap (λ (x : Book). get_or x.members place nobody) view

    pub limits : WithinLimits b
    limits =
        let n = length-members_of t.days.count t.members.items t.cells in
        let there : WithinLimits (book_of t) =
        record {
          few_members = omega (arith, sound.few, n);
          least = t.days.least;
          most = t.days.most;
          whole = λ i h.
              let lt : i < length t.members.items = omega (arith, h, n) in
              subst (λ (m : Member). length m.days ≡ t.days.count) (sym (get_or-members_of t.days.count t.members.items t.cells i nobody lt)) (length-days_at i lt);
          marked = length-take-le t.days.count t.notices (omega (arith, sound.marks, t.days.most));
          retained = λ i. elim (cases_lt i (length t.members.items)) [
            | inl lt ↦ subst (λ (m : Member). m.retention ≤ most_retention) (sym (get_or-members_of t.days.count t.members.items t.cells i nobody lt)) (sound.retained i)
            | inr le ↦ subst (λ (m : Member). m.retention ≤ most_retention) (sym (get_or_past (members_of t.days.count t.members.items t.cells) i nobody (omega (arith, n, le)))) (lit≤ tt)
          ];
          few_days = λ i. elim (cases_lt i (length t.members.items)) [
            | inl lt ↦ subst (λ (m : Member). length m.days ≤ most_days) (sym (get_or-members_of t.days.count t.members.items t.cells i nobody lt)) (small_at i lt).few_days
            | inr le ↦ subst (λ (m : Member). length m.days ≤ most_days) (sym (get_or_past (members_of t.days.count t.members.items t.cells) i nobody (omega (arith, n, le)))) (lit≤ tt)
          ];
          small_days = λ i k. elim (cases_lt i (length t.members.items)) [
            | inl lt ↦ subst (λ (m : Member). SmallDay (get_or m.days k blank)) (sym (get_or-members_of t.days.count t.members.items t.cells i nobody lt)) (small_day i k)
            | inr le ↦ subst (λ (m : Member). SmallDay (get_or m.days k blank)) (sym (get_or_past (members_of t.days.count t.members.items t.cells) i nobody (omega (arith, n, le)))) blank_small
          ];
        } in
        subst WithinLimits view there

-- a book with the same days and members, and as many marks
pub limits_kept : (a b : Book) → a.days ≡ b.days → a.members ≡ b.members → length a.notices ≡ length b.notices → WithinLimits a → WithinLimits b
limits_kept a b days same marks w =
    record {
      least = subst (λ n. least_days ≤ n) days w.least;
      most = subst (λ n. n ≤ most_days) days w.most;
      whole = λ i lt. subst (λ (ms : List Member). i < length ms → length (get_or ms i nobody).days ≡ a.days) same (w.whole i) lt ∙ days;
      marked = sym marks ∙ w.marked ∙ days;
      retained = λ i. subst (λ (ms : List Member). (get_or ms i nobody).retention ≤ most_retention) same (w.retained i);
      few_members = subst (λ (ms : List Member). length ms ≤ most_members) same w.few_members;
      few_days = λ i. subst (λ (ms : List Member). length (get_or ms i nobody).days ≤ most_days) same (w.few_days i);
      small_days = λ i k. subst (λ (ms : List Member). SmallDay (get_or (get_or ms i nobody).days k blank)) same (w.small_days i k);
    }
