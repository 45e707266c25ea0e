-- What a posting's write to the cells of a table makes of its plain book. Assumes nothing.
use Rattle.std.proofs.Common.{◌≡◌, ℕ, ◌+◌, ◌-◌, ◌*◌, ◌<◌, ◌≤◌, Bool, true, false, cond, eqb, leb, inl, inr, List, ◌++◌, length, get_or, take, drop, set, map, Some, sym, ap, ◌∙◌, ⊎_elim, subst, arith}
use Rattle.std.proofs.lemmas.List.{length-set, length-take-le, length-drop, length-append, length-map, get_or-set_same, get_or-set_other, get_or_default, get_or-take, get_or-drop, get_or-map, get_or_append_left, get_or-append_right}
use Rattle.std.proofs.lemmas.List.Quantifiers.{position-Some}
use Rattle.std.proofs.lemmas.Bool.{cases_eq, cases_lt, eq-eqb, ne_eqb}
use Rattle.std.proofs.lemmas.Bool.Decides.{nat_tests}
use Rattle.rules.specs.Days.{most_days}
use Rattle.agreement.specs.declared.calls.Posting.{Posting}
use Rattle.agreement.specs.declared.day.Day.{Day}
use Rattle.agreement.specs.Book.{Book, Member, blank}
use Rattle.agreement.specs.Postings.{on_days, on_member}
use Rattle.agreement.specs.Sizes.{SmallDay}
use Rattle.pool.specs.declared.table.Table.TheInside.{Inside}
use Rattle.pool.specs.Members.{nobody}
use Rattle.pool.specs.Contents.{Sound, book_of}
use Rattle.pool.specs.Places.{Posts, cell_at, place_of}
use Rattle.pool.proofs.Places.{count_is}
use Rattle.pool.proofs.Posted.{Wrote, posted}

-- one cell written
pub wrote_one : (cells : List Day) (k day n c : ℕ) (f : Day → Day) → n ≤ most_days → 1 ≤ day → day ≤ n → c ≡ cell_at k day → c < length cells → Wrote cells (set cells c (f (get_or cells c blank))) k n (λ m. eqb day m) f
wrote_one cells k day n c f short from upto at lt =
    let x = f (get_or cells c blank) in
    record {
      long = length-set cells c x;
      here = λ j d h.
          let y = get_or cells (k * most_days + j) d in
          ⊎_elim
          (λ (e : day ≡ 1 + j).
          let q : c ≡ k * most_days + j = omega arith in
          ap (λ (i : ℕ). get_or (set cells c x) i d) (sym q)
          ∙ get_or-set_same cells c x d lt
          ∙ ap f (get_or_default cells c blank d lt ∙ ap (λ (i : ℕ). get_or cells i d) q)
          ∙ sym (ap (λ (b : Bool). cond b (f y) y) (eq-eqb day (1 + j) e)))
          (λ ne. get_or-set_other cells c (k * most_days + j) x d (λ e. ne (omega arith)) ∙ sym (ap (λ (b : Bool). cond b (f y) y) (ne_eqb day (1 + j) ne)))
          (cases_eq day (1 + j));
      other = λ i j d ne h. get_or-set_other cells c (i * most_days + j) x d (λ e. ne (omega arith));
      each = λ i.
          ⊎_elim
          (λ (e : i ≡ c). inr (omega arith, ap (λ (i : ℕ). get_or (set cells c x) i blank) e ∙ get_or-set_same cells c x blank lt ∙ ap (λ (i : ℕ). f (get_or cells i blank)) (sym e)))
          (λ ne. inl (get_or-set_other cells c i x blank ne))
          (cases_eq i c);
    }

-- cells with a part of them mapped
abbrev pub mapped : List Day → ℕ → ℕ → (Day → Day) → List Day
mapped cells a m f = take a cells ++ (map f (take m (drop a cells)) ++ drop m (drop a cells))

module _ (cells : List Day) (a m : ℕ) (f : Day → Day) (fits : a + m ≤ length cells) where
  front : length (take a cells) ≡ a
  front = length-take-le a cells (omega arith)

  part : length (map f (take m (drop a cells))) ≡ m
  part = length-map (take m (drop a cells)) f ∙ length-take-le m (drop a cells) (omega (arith, length-drop a cells))

  at_in : (i : ℕ) (d : Day) → a ≤ i → i < a + m → get_or (mapped cells a m f) i d ≡ f (get_or cells i d)
  at_in i d h l =
      let back : a + (i - a) ≡ i = omega arith in
      get_or-append_right (take a cells) (map f (take m (drop a cells)) ++ drop m (drop a cells)) a i d front h
      ∙ get_or_append_left (map f (take m (drop a cells))) (drop m (drop a cells)) d (i - a) (omega (arith, part))
      ∙ get_or-map f (take m (drop a cells)) (i - a) d d (omega (arith, part, length-map (take m (drop a cells)) f))
      ∙ ap f (get_or-take m (drop a cells) (i - a) d (omega arith) ∙ get_or-drop a cells (i - a) d ∙ ap (λ (i : ℕ). get_or cells i d) back)

  at_below : (i : ℕ) (d : Day) → i < a → get_or (mapped cells a m f) i d ≡ get_or cells i d
  at_below i d l = get_or_append_left (take a cells) (map f (take m (drop a cells)) ++ drop m (drop a cells)) d i (omega (arith, front)) ∙ get_or-take a cells i d l

  at_above : (i : ℕ) (d : Day) → a + m ≤ i → get_or (mapped cells a m f) i d ≡ get_or cells i d
  at_above i d h =
      let back : a + (m + (i - a - m)) ≡ i = omega arith in
      get_or-append_right (take a cells) (map f (take m (drop a cells)) ++ drop m (drop a cells)) a i d front (omega arith)
      ∙ get_or-append_right (map f (take m (drop a cells))) (drop m (drop a cells)) m (i - a) d part (omega arith)
      ∙ get_or-drop m (drop a cells) (i - a - m) d
      ∙ get_or-drop a cells (m + (i - a - m)) d
      ∙ ap (λ (i : ℕ). get_or cells i d) back

  long_mapped : length (mapped cells a m f) ≡ length cells
  long_mapped =
      let p = length-append (take a cells) (map f (take m (drop a cells)) ++ drop m (drop a cells)) in
      let q = length-append (map f (take m (drop a cells))) (drop m (drop a cells)) in
      omega (arith, p, q, front, part, length-drop m (drop a cells), length-drop a cells)

-- the cells from a day on written
pub wrote_from : (cells new : List Day) (k day n a m : ℕ) (f : Day → Day) → n ≤ most_days → 1 ≤ day → day ≤ n → a ≡ cell_at k day → m ≡ n - (day - 1) → a + m ≤ length cells → new ≡ mapped cells a m f → Wrote cells new k n (λ m. leb day m) f
wrote_from cells new k day n a m f short from upto at many fits is =
    let to-end : a + m ≡ k * most_days + n = omega arith in
    subst (λ (xs : List Day). Wrote cells xs k n (λ m. leb day m) f) (sym is)
    (record {
      long = long_mapped cells a m f fits;
      here = λ j d h.
          let y = get_or cells (k * most_days + j) d in
          ⊎_elim
          (λ (lt : 1 + j < day). let no : leb day (1 + j) ≡ false = grind (arith, nat_tests) in at_below cells a m f fits (k * most_days + j) d (omega arith) ∙ sym (ap (λ (b : Bool). cond b (f y) y) no))
          (λ (ge : day ≤ 1 + j). let yes : leb day (1 + j) ≡ true = grind (arith, nat_tests) in at_in cells a m f fits (k * most_days + j) d (omega arith) (omega arith) ∙ sym (ap (λ (b : Bool). cond b (f y) y) yes))
          (cases_lt (1 + j) day);
      other = λ i j d ne h.
          ⊎_elim
          (λ (lt : i < k). at_below cells a m f fits (i * most_days + j) d (omega arith))
          (λ (ge : k ≤ i). at_above cells a m f fits (i * most_days + j) d (omega arith))
          (cases_lt i k);
      each = λ c.
          ⊎_elim
          (λ (lt : c < a). inl (at_below cells a m f fits c blank lt))
          (λ (ge : a ≤ c).
          ⊎_elim
          (λ (lt : c < a + m). inr (omega arith, at_in cells a m f fits c blank ge lt))
          (λ (above : a + m ≤ c). inl (at_above cells a m f fits c blank above))
          (cases_lt c (a + m)))
          (cases_lt c a);
    })

-- a table with other cells
abbrev pub with_cells : Inside → List Day → Inside
with_cells t cells = record { days = t.days; status = t.status; members = t.members; cells = cells; notices = t.notices }

module _ (t : Inside) (sound : Sound t) (book : Book) (view : book_of t ≡ book) (p : Posting) (cell : ℕ) (posts : Posts book p cell) where
  pub place_below : posts.place < length t.members.items
  place_below =
      let found = position-Some (λ (m : Member). eqb m.account p.account) book.members posts.place nobody posts.here in
      omega (arith, found.0, count_is t sound book view)

  pub days_are : t.days.count ≡ book.days
  days_are = ap (λ (b : Book). b.days) view

  pub cell_below : cell < 1240
  cell_below = omega (arith, place_below, posts.at, posts.from, posts.upto, days_are, t.days.most, sound.few)

  -- the cells after the change of a posting
  module _ (new : List Day) (chosen : ℕ → Bool) (f : Day → Day) (w : Wrote t.cells new posts.place t.days.count chosen f) where
    pub posted_at : book_of (with_cells t new) ≡ record { days = book.days; members = on_member p.account (on_days chosen f) book.members; notices = book.notices; status = book.status }
    posted_at =
        let n = t.days.count in
        let here = subst (λ (b : Book). place_of p.account b ≡ Some posts.place) (sym view) posts.here in
        ap (λ (ms : List Member). record { days = n; members = ms; notices = take n t.notices; status = t.status })
        (posted t.cells new posts.place n chosen f w t.members.items place_below t.days.most (omega (arith, sound.cells, sound.few)) p.account here)
        ∙ ap (λ (b : Book). record { days = b.days; members = on_member p.account (on_days chosen f) b.members; notices = b.notices; status = b.status }) view

    pub kept : ((d : Day) → SmallDay d → SmallDay (f d)) → Sound (with_cells t new)
    kept small =
        record {
          few = sound.few;
          cells = w.long ∙ sound.cells;
          marks = sound.marks;
          retained = sound.retained;
          small = λ c. ⊎_elim (λ same. subst SmallDay (sym same) (sound.small c)) (λ is. subst SmallDay (sym is.1) (small (get_or t.cells c blank) (sound.small c))) (w.each c);
          rest = λ c h. ⊎_elim (λ same. same ∙ sound.rest c h) (λ is. absurd (omega (arith, is.0, place_below, t.days.most))) (w.each c);
        }
