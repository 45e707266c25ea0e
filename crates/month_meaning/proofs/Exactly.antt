-- A file is accepted exactly when it is a month's file, and a fault says what stands before it. Assumes that the numbers
-- of a file are bytes.
use Rattle.std.proofs.Common.{◌≡◌, ℕ, suc, ◌+◌, ◌-◌, ◌≤◌, Bool, true, false, cond, eqb, ltb, ◌⊎◌, List, [], ◌∷◌, ◌++◌, length, get_or, take, drop, Some, None, Ok, Err, Option, Result, sym, refl, ap, ◌∙◌, subst, inl, inr, arith, ltb-false, le-ltb, eqb-true}
use Rattle.std.specs.List.{flat_map}
use Rattle.std.proofs.lemmas.List.{length-append, append-nil, take_at, drop_at, length-drop}
use Rattle.month_format.specs.declared.errors.BytesError.{BytesError}
use Rattle.month_format.specs.declared.errors.BytesError.TheVariants.{TooLong, BadVersion}
use Rattle.month_format.specs.declared.errors.RecordError.TheVariants.{Bytes}
use Rattle.month_format.specs.Entries.{Entry, frame, file_of}
use Rattle.month_format.specs.Fields.{AllBytes}
use Rattle.month_format.specs.Files.{most_bytes, versioned}
use Rattle.month_format.proofs.Encodes.{err_ok}
use Rattle.month_format.proofs.Framed.{bytes_drop}
use Rattle.month_meaning.specs.declared.errors.FileError.TheVariants.{InRecord}
use Rattle.month_meaning.specs.declared.fault.Fault.{Fault}
use Rattle.month_meaning.specs.Faults.{unplaced}
use Rattle.month_meaning.specs.Months.{Month}
use Rattle.month_meaning.specs.Reading.{Reading, place_at, read_on, begun, reading, kept}
use Rattle.month_meaning.specs.Accepted.{Accepted, Stopped, Nowhere, Reads}
use Rattle.month_meaning.proofs.Posting.{Posts, makes_of, posts_of, held, posts_last}
use Rattle.month_meaning.proofs.Runs.{complete, Sofar, sound}

-- ---- a month's file is read through
file_versioned : (es : List Entry) → length (file_of es) ≤ most_bytes → versioned (file_of es) ≡ Ok (flat_map frame es)
file_versioned es size = ap (λ (b : Bool). cond b (Err TooLong) (Ok (flat_map frame es))) (le-ltb most_bytes (length (file_of es)) size)

pub reads_accepted : (file : List ℕ) (m : Month) → Accepted file m → reading file ≡ (Some m, Ok tt)
reads_accepted file m a =
    let es = a.entries in
    let g = flat_map frame es in
    let size : length (file_of es) ≤ most_bytes = subst (λ t. length t ≤ most_bytes) a.layout a.size in
    ap reading a.layout
    ∙ ap (λ v. begun v (λ left. read_on (suc (length g)) None 0 (suc (length g)) left)) (file_versioned es size)
    ∙ complete es (suc (length g)) None 0 (suc (length g)) m (posts_of es m a.makes) (omega arith)

-- ---- a file is refused before its records, or read on
starts : (file : List ℕ) → get_or file 0 0 ≡ 1 → file ≡ 1 ∷ drop 1 file
starts [] e = absurd (omega arith)
starts (v ∷ t) e = ap (λ n. n ∷ t) e

data Way (file : List ℕ) (x : Reading) : Type 0 where
  unread : (e : BytesError) → x ≡ (None, Err (unplaced (InRecord (Bytes e)))) → Way file x
  ran : length file ≤ most_bytes → file ≡ 1 ∷ drop 1 file → Sofar None x 0 (length file) (drop 1 file) → Way file x

way : (file : List ℕ) → AllBytes file → Way file (reading file)
way file small =
    go (ltb most_bytes (length file)) (eqb (get_or file 0 0) 1) refl refl
  where
    go : (p q : Bool) → ltb most_bytes (length file) ≡ p → eqb (get_or file 0 0) 1 ≡ q → Way file (begun (cond p (Err TooLong) (cond q (Ok (drop 1 file)) (Err BadVersion))) (λ left. read_on (length file) None 0 (length file) left))
    go true q d e = unread TooLong refl
    go false true d e =
        ran (ltb-false most_bytes (length file) d) (starts file (eqb-true (get_or file 0 0) 1 e)) (sound (length file) None 0 (length file) (drop 1 file) (omega (arith, length-drop 1 file)) (bytes_drop 1 file small))
    go false false d e = unread BadVersion refl

module _ (file : List ℕ) where
  ran_accepted : (made : Option Month) (r : Result (Unit {0}) Fault) → length file ≤ most_bytes → file ≡ 1 ∷ drop 1 file → Sofar None (made, r) 0 (length file) (drop 1 file) → r ≡ Ok tt → (m : Month) × ((made ≡ Some m) × Accepted file m)
  ran_accepted made (Err f) size v s q = absurd (err_ok f tt q)
  ran_accepted made (Ok u) size v s q =
      let m = s.outcome.1.0 in
      let is = s.outcome.1.1 in
      let es = s.entries in
      let layout : file ≡ file_of es = v ∙ ap (λ t. 1 ∷ t) (s.layout ∙ ap (λ t. flat_map frame es ++ t) s.outcome.0 ∙ append-nil (flat_map frame es)) in
      (m, (is, record { entries = es; layout = layout; size = size; makes = makes_of es m (subst (λ t. Posts None es t) is s.posts) }))

  ran_stopped : (made : Option Month) (f : Fault) (before : Option Month) → file ≡ 1 ∷ drop 1 file → Sofar None (made, Err f) 0 (length file) (drop 1 file) → Stopped file before (kept made before) f
  ran_stopped made f before v s =
      let es = s.entries in
      let g = file_of es in
      let whole : file ≡ g ++ s.rest = v ∙ ap (λ t. 1 ∷ t) s.layout in
      let place = place_at (0 + length es) (length file) s.rest in
      let byte : length g ≡ length file - length s.rest = omega (arith, ap length whole, length-append g s.rest) in
      let rest : drop place.byte file ≡ s.rest = ap (drop place.byte) whole ∙ drop_at g s.rest place.byte byte in
      record {
        place = place;
        reached = s.outcome.0;
        entries = es;
        front = ap (take place.byte) whole ∙ take_at g s.rest place.byte byte;
        count = omega arith;
        held = held es made before s.posts;
        barred = λ e r m l k. s.outcome.1 e r m (sym rest ∙ l) (posts_last es None made e m s.posts (posts_of (es ++ e ∷ []) m k));
      }

  way_accepted : (x : Reading) → Way file x → x.1 ≡ Ok tt → (m : Month) × ((x.0 ≡ Some m) × Accepted file m)
  way_accepted x (unread e p) q = absurd (err_ok (unplaced (InRecord (Bytes e))) tt (ap (λ y. y.1) (sym p) ∙ q))
  way_accepted x (ran size v s) q = ran_accepted x.0 x.1 size v s q

  way_stopped : (x : Reading) → Way file x → (before : Option Month) (f : Fault) → x.1 ≡ Err f → Nowhere f before (kept x.0 before) ⊎ Stopped file before (kept x.0 before) f
  way_stopped x (unread e p) before f q =
      let same : ◌≡◌ {A = Result (Unit {0}) Fault} (Err f) (Err (unplaced (InRecord (Bytes e)))) = sym q ∙ ap (λ y. y.1) p in
      let at : f ≡ unplaced (InRecord (Bytes e)) = cc in
      inl (record { unreached = ap (λ y. y.place) at; held = ap (λ y. kept y.0 before) p })
  way_stopped x (ran size v s) before f q =
      inr (ran_stopped x.0 f before v (subst (λ r. Sofar None (x.0, r) 0 (length file) (drop 1 file)) q s))

  exactly : AllBytes file → (before : Option Month) → Reads file before (kept (reading file).0 before) (reading file).1
  exactly small before = record {
    accepts = λ m a. let e = reads_accepted file m a in (ap (λ x. x.1) e, ap (λ x. kept x.0 before) e);
    accepted = λ q. let t = way_accepted (reading file) (way file small) q in (t.0, (ap (λ m. kept m before) t.1.0, t.1.1));
    stopped = way_stopped (reading file) (way file small) before;
  }

  -- the same of whatever equals the reading
  pub exactly_as : (before later : Option Month) (r : Result (Unit {0}) Fault) → AllBytes file → later ≡ kept (reading file).0 before → r ≡ (reading file).1 → Reads file before later r
  exactly_as before later r small b a =
      let P : Option Month → Result (Unit {0}) Fault → Type 0 = Reads file before in
      subst (λ m. P m r) (sym b) (subst (P (kept (reading file).0 before)) (sym a) (exactly small before))
