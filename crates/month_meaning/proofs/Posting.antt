-- Entries that are posted one after another are those that make a month. Assumes nothing.
use Rattle.std.proofs.Common.{◌≡◌, List, [], ◌∷◌, ◌++◌, map, Some, None, Ok, Err, Option, Result, sym, refl, ap, ◌∙◌, subst}
use Rattle.rules.specs.Checks.{unless}
use Rattle.std.proofs.lemmas.Option.{none-some, same_Some}
use Rattle.agreement.specs.declared.calls.Call.{Call}
use Rattle.agreement.specs.declared.refusals.Refusal.{Refusal}
use Rattle.agreement.specs.Book.{opened}
use Rattle.agreement.specs.Calls.{after, answer}
use Rattle.agreement.specs.Runs.{run}
use Rattle.month_format.specs.declared.errors.RecordError.TheVariants.{MisplacedSetUp}
use Rattle.month_format.specs.Entries.{Entry, set_up, call}
use Rattle.month_format.proofs.Encodes.{err_ok}
use Rattle.month_meaning.specs.declared.errors.FileError.{FileError}
use Rattle.month_meaning.specs.declared.errors.FileError.TheVariants.{InRecord, InBook}
use Rattle.month_meaning.specs.Months.{Month, with_book, opening, set_up_refusal}
use Rattle.month_meaning.specs.Reading.{answered, posted, kept}
use Rattle.month_meaning.specs.Accepted.{Accepts, Makes, Held}

-- the entries are posted one after another
abbrev pub Posts : Option Month → List Entry → Option Month → Type 0
Posts made [] later = made ≡ later
Posts made (e ∷ es) later = (m : Month) × ((posted made e ≡ Ok m) × Posts (Some m) es later)

pub ok_same : {X Y : Type 0} (x y : X) → ◌≡◌ {A = Result X Y} (Ok x) (Ok y) → x ≡ y
ok_same x y q = cc

free_of : (why : Option FileError) (m m' : Month) → unless why m ≡ Ok m' → (why ≡ None) × (m ≡ m')
free_of None m m' q = (refl, ok_same m m' q)
free_of (Some e) m m' q = absurd (err_ok e m' q)

answer_of : (r : Result (Unit {0}) Refusal) (m m' : Month) → answered r m ≡ Ok m' → (r ≡ Ok tt) × (m ≡ m')
answer_of (Ok tt) m m' q = (refl, ok_same m m' q)
answer_of (Err e) m m' q = absurd (err_ok (InBook e) m' q)

-- the calls that entries after a set-up are
pub record Calls-of (es : List Entry) (m m' : Month) : Type 0 where
  pub calls : List Call
  pub entered : es ≡ map call calls
  pub accepts : Accepts m.book calls
  pub book : m' ≡ with_book (run calls m.book) m

calls_of : (es : List Entry) (m m' : Month) → Posts (Some m) es (Some m') → Calls-of es m m'
calls_of [] m m' p = record { calls = []; entered = refl; accepts = tt; book = sym (same_Some m m' p) }
calls_of (set_up d n a l ∷ es) m m' p = absurd (err_ok (InRecord MisplacedSetUp) p.0 p.1.0)
calls_of (call c ∷ es) m m' p =
    let next = with_book (after c m.book) m in
    let s = answer_of (answer c m.book) next p.0 p.1.0 in
    let r = calls_of es next m' (subst (λ t. Posts (Some t) es (Some m')) (sym s.1) p.1.1) in
    record { calls = c ∷ r.calls; entered = ap (λ t. call c ∷ t) r.entered; accepts = (s.0, r.accepts); book = r.book }

posts_calls : (cs : List Call) (m : Month) → Accepts m.book cs → Posts (Some m) (map call cs) (Some (with_book (run cs m.book) m))
posts_calls [] m a = refl
posts_calls (c ∷ cs) m a =
    let next = with_book (after c m.book) m in
    (next, (ap (λ r. answered r next) a.0, posts_calls cs next a.1))

pub makes_of : (es : List Entry) (m : Month) → Posts None es (Some m) → Makes es m
makes_of [] m p = absurd (none-some m p)
makes_of (call c ∷ es) m p = absurd (err_ok (InRecord MisplacedSetUp) p.0 p.1.0)
makes_of (set_up d n a l ∷ es) m p =
    let s = free_of (set_up_refusal d n a l) (opening d n a l) p.0 p.1.0 in
    let r = calls_of es (opening d n a l) m (subst (λ t. Posts (Some t) es (Some m)) (sym s.1) p.1.1) in
    record { days = d; bands = n; average = a; lowest = l; calls = r.calls; entered = ap (λ t. set_up d n a l ∷ t) r.entered; free = s.0; accepts = r.accepts; book = r.book }

pub posts_of : (es : List Entry) (m : Month) → Makes es m → Posts None es (Some m)
posts_of es m k =
    let o = opening k.days k.bands k.average k.lowest in
    let p : Posts None (set_up k.days k.bands k.average k.lowest ∷ map call k.calls) (Some (with_book (run k.calls (opened k.days)) o)) = (o, (ap (λ w. unless w o) k.free, posts_calls k.calls o k.accepts)) in
    subst (λ t. Posts None t (Some m)) (sym k.entered) (subst (λ t. Posts None (set_up k.days k.bands k.average k.lowest ∷ map call k.calls) (Some t)) (sym k.book) p)

never_none : (es : List Entry) (m : Month) → Posts (Some m) es None → ⊥
never_none [] m p = none-some m (sym p)
never_none (e ∷ es) m p = never_none es p.0 p.1.1

-- what the entries make is held
pub held : (es : List Entry) (made before : Option Month) → Posts None es made → Held es before (kept made before)
held [] None before p = refl
held [] (Some m) before p = absurd (none-some m p)
held (e ∷ es) None before p = absurd (never_none es p.0 p.1.1)
held (e ∷ es) (Some m) before p = (m, (refl, makes_of (e ∷ es) m p))

-- an entry that could follow is posted
pub posts_last : (es : List Entry) (first made : Option Month) (e : Entry) (m : Month) → Posts first es made → Posts first (es ++ e ∷ []) (Some m) → posted made e ≡ Ok m
posts_last [] first made e m p q = ap (λ t. posted t e) (sym p) ∙ q.1.0 ∙ ap Ok (same_Some q.0 m q.1.1)
posts_last (x ∷ es) first made e m p q =
    let same : p.0 ≡ q.0 = ok_same p.0 q.0 (sym p.1.0 ∙ q.1.0) in
    posts_last es (Some q.0) made e m (subst (λ t. Posts (Some t) es made) same p.1.1) q.1.1
