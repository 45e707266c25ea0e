-- What one member more makes of a table. Assumes nothing.
use Rattle.std.proofs.Common.{◌≡◌, ℕ, suc, ◌+◌, ◌*◌, ◌<◌, ◌≤◌, List, [], ◌∷◌, ◌++◌, length, get_or, take, drop, replicate, sym, refl, ap, ◌∙◌, ⊎_elim, subst, arith, lit≤}
use Rattle.std.proofs.lemmas.List.{drop-drop, length-take-le, length-drop, length-replicate, length_push, get_or-take, get_or-drop, get_or-replicate, get_or_default, get_or_append_left, get_or_push, get_or_past, same_lists}
use Rattle.std.proofs.lemmas.Bool.{cases_lt}
use Rattle.arrayvec.specs.ArrayVec.{ArrayVec}
use Rattle.rules.specs.Days.{most_days}
use Rattle.agreement.specs.declared.calls.Call.TheVariants.{Enrol}
use Rattle.agreement.specs.declared.day.Day.{Day}
use Rattle.agreement.specs.Book.{Book, Member, blank}
use Rattle.agreement.specs.Calls.{accepted}
use Rattle.agreement.specs.Limits.{most_retention}
use Rattle.pool.specs.declared.table.Enrolled.{Enrolled}
use Rattle.pool.specs.declared.table.Table.TheInside.{Inside}
use Rattle.pool.specs.Contents.{Sound, book_of, members_of, no_one}

pub members_push : (n : ℕ) (es : List Enrolled) (e : Enrolled) (cells : List Day)
    → members_of n (es ++ e ∷ []) cells ≡ members_of n es cells ++ record { account = e.account; retention = e.retention; days = take n (drop (length es * most_days) cells) } ∷ []
members_push n [] e cells = refl
members_push n (x ∷ es) e cells =
    let next : most_days + length es * most_days ≡ suc (length es) * most_days = omega arith in
    ap (λ (ms : List Member). record { account = x.account; retention = x.retention; days = take n cells } ∷ ms)
    (members_push n es e (drop most_days cells)
    ∙ ap (λ (ds : List Day). members_of n es (drop most_days cells) ++ record { account = e.account; retention = e.retention; days = take n ds } ∷ [])
    (drop-drop (length es * most_days) most_days cells ∙ ap (λ (i : ℕ). drop i cells) next))

-- a table with other enrolments
abbrev pub with_members : Inside → ArrayVec Enrolled → Inside
with_members t members = record { days = t.days; status = t.status; members = members; cells = t.cells; notices = t.notices }

module _ (t : Inside) (sound : Sound t) where
  -- the row past the last member's is blank
  blank_row : length t.members.items < 40 → take t.days.count (drop (length t.members.items * most_days) t.cells) ≡ replicate t.days.count blank
  blank_row room =
      let n = t.days.count in
      let a = length t.members.items * most_days in
      let l : length (take t.days.count (drop (length t.members.items * most_days) t.cells)) ≡ t.days.count =
      length-take-le n (drop a t.cells) (omega (arith, length-drop a t.cells, sound.cells, t.days.most)) in
      same_lists (take n (drop a t.cells)) (replicate n blank) (l ∙ sym (length-replicate n blank))
      (λ k d h.
      let h' : k < t.days.count = omega (arith, l) in
      get_or_default (take n (drop a t.cells)) k d blank h
      ∙ get_or-take n (drop a t.cells) k blank h' ∙ get_or-drop a t.cells k blank ∙ sound.rest (a + k) (omega arith)
      ∙ sym (get_or-replicate n k blank d h'))

  module _ (more : ArrayVec Enrolled) (e : Enrolled) (is : more.items ≡ t.members.items ++ e ∷ []) (room : length t.members.items < 40) where
    longer : length more.items ≡ length t.members.items + 1
    longer = ap length is ∙ length_push t.members.items e

    pub sound_more : e.retention ≤ most_retention → Sound (with_members t more)
    sound_more small =
        record {
          few = omega (arith, longer);
          cells = sound.cells;
          marks = sound.marks;
          retained = λ i. subst (λ (es : List Enrolled). (get_or es i no_one).retention ≤ most_retention) (sym is) (each i);
          small = sound.small;
          rest = λ k h. sound.rest k (omega (arith, longer));
        }
      where
        each : (i : ℕ) → (get_or (t.members.items ++ e ∷ []) i no_one).retention ≤ most_retention
        each i =
            let Low : Enrolled → Type 0 = λ x. x.retention ≤ most_retention in
            let long = length_push t.members.items e in
            ⊎_elim
            (λ lt. subst Low (sym (get_or_append_left t.members.items (e ∷ []) no_one i lt)) (sound.retained i))
            (λ ge.
            ⊎_elim
            (λ (lt : i < length t.members.items + 1). subst Low (sym (get_or_push t.members.items e no_one i (omega arith))) small)
            (λ past. subst Low (sym (get_or_past (t.members.items ++ e ∷ []) i no_one (omega (arith, long)))) (lit≤ tt))
            (cases_lt i (length t.members.items + 1)))
            (cases_lt i (length t.members.items))

  pub enrolled_more : (book : Book) → book_of t ≡ book → (more : ArrayVec Enrolled) (account retention : ℕ) → more.items ≡ t.members.items ++ (record { account = account; retention = retention }) ∷ [] → length t.members.items < 40
      → book_of (with_members t more) ≡ accepted (Enrol account retention) book
  enrolled_more book view more account retention is room =
      let n = t.days.count in
      let e : Enrolled = record { account = account; retention = retention } in
      let Made : List Member → Book = λ ms. record { days = n; members = ms; notices = take n t.notices; status = t.status } in
      ap (λ (es : List Enrolled). Made (members_of n es t.cells)) is
      ∙ ap Made (members_push n t.members.items e t.cells)
      ∙ ap (λ (ds : List Day). Made (members_of n t.members.items t.cells ++ record { account = account; retention = retention; days = ds } ∷ [])) (blank_row room)
      ∙ ap (accepted (Enrol account retention)) view
