-- What reading the bytes that are left answers, as entries. Assumes that the numbers of a file are bytes.
use Rattle.std.proofs.Common.{◌≡◌, ℕ, zero, suc, ◌+◌, ◌≤◌, List, [], ◌∷◌, ◌++◌, length, get_or, Some, None, Ok, Err, Option, Result, sym, refl, ap, ◌∙◌, arith}
use Rattle.std.specs.List.{flat_map}
use Rattle.std.proofs.lemmas.List.{length-append, append_assoc, get_or-append-add}
use Rattle.month_format.specs.declared.errors.RecordError.{RecordError}
use Rattle.month_format.specs.declared.errors.RecordError.TheVariants.{MisplacedSetUp}
use Rattle.month_format.specs.Entries.{Entry, frame}
use Rattle.month_format.specs.Fields.{AllBytes}
use Rattle.month_format.specs.Records.{record_at}
use Rattle.month_format.proofs.Encodes.{err_ok}
use Rattle.month_format.proofs.Framed.{reads, is_frame}
use Rattle.month_meaning.specs.declared.errors.FileError.{FileError}
use Rattle.month_meaning.specs.declared.errors.FileError.TheVariants.{InRecord}
use Rattle.month_meaning.specs.declared.fault.Fault.{Fault}
use Rattle.month_meaning.specs.Faults.{fault}
use Rattle.month_meaning.specs.Months.{Month}
use Rattle.month_meaning.specs.Reading.{Reading, posted, place_at, ended, went_on, stepped, read_on}
use Rattle.month_meaning.proofs.Posting.{Posts, ok_same}

-- ---- the records of entries are read back
pub complete : (es : List Entry) (k : ℕ) (made : Option Month) (nth total : ℕ) (m : Month) → Posts made es (Some m) → length (flat_map frame es) ≤ k → read_on k made nth total (flat_map frame es) ≡ (Some m, Ok tt)
complete [] zero made nth total m p h = ap (λ t. ended t (place_at nth total [])) p
complete [] (suc k) made nth total m p h = ap (λ t. ended t (place_at nth total [])) p
complete (e ∷ es) zero made nth total m p h = absurd (omega (arith, length-append (frame e) (flat_map frame es)))
complete (e ∷ es) (suc k) made nth total m p h =
    let rest = flat_map frame es in
    let place = place_at nth total (frame e ++ rest) in
    ap (λ x. stepped made place x (λ t r. read_on k t (nth + 1) total r)) (reads e rest)
    ∙ ap (λ x. went_on made place x (λ t. read_on k t (nth + 1) total rest)) p.1.0
    ∙ complete es k (Some p.0) (nth + 1) total m p.1.1 (omega (arith, length-append (frame e) rest))

-- ---- and nothing else is
-- no entry that could be posted begins here
abbrev pub Barred : Option Month → List ℕ → Type 0
Barred made bs = (e : Entry) (rest : List ℕ) (m : Month) → bs ≡ frame e ++ rest → posted made e ≡ Ok m → ⊥

abbrev pub Outcome : Option Month → Result (Unit {0}) Fault → ℕ → ℕ → List Entry → List ℕ → Type 0
Outcome made (Ok u) nth total es rest = (rest ≡ []) × ((m : Month) × (made ≡ Some m))
Outcome made (Err f) nth total es rest = (f.place ≡ Some (place_at (nth + length es) total rest)) × Barred made rest

pub record Sofar (made : Option Month) (x : Reading) (nth total : ℕ) (bs : List ℕ) : Type 0 where
  pub entries : List Entry
  pub rest : List ℕ
  pub layout : bs ≡ flat_map frame entries ++ rest
  pub posts : Posts made entries x.0
  pub outcome : Outcome x.0 x.1 nth total entries rest

stops : (made : Option Month) (e : FileError) (nth total : ℕ) (bs : List ℕ) → Barred made bs → Sofar made (made, Err (fault e (place_at nth total bs))) nth total bs
stops made e nth total bs barred = record { entries = []; rest = bs; layout = refl; posts = refl; outcome = (ap (λ n. Some (place_at n total bs)) (omega arith), barred) }

nothing_left : (made : Option Month) → Barred made []
nothing_left made e rest m l p = omega (arith, ap length l, length-append (frame e) rest)

ends : (made : Option Month) (nth total : ℕ) → Sofar made (ended made (place_at nth total [])) nth total []
ends None nth total = stops None (InRecord MisplacedSetUp) nth total [] (nothing_left None)
ends (Some m) nth total = record { entries = []; rest = []; layout = refl; posts = refl; outcome = (refl, (m, refl)) }

later : (made : Option Month) (r : Result (Unit {0}) Fault) (nth total : ℕ) (e : Entry) (es : List Entry) (rest : List ℕ) → Outcome made r (nth + 1) total es rest → Outcome made r nth total (e ∷ es) rest
later made (Ok u) nth total e es rest o = o
later made (Err f) nth total e es rest o = (o.0 ∙ ap (λ n. Some (place_at n total rest)) (omega arith), o.1)

more : (made : Option Month) (m : Month) (x : Reading) (nth total : ℕ) (bs : List ℕ) (e : Entry) (rest : List ℕ) → bs ≡ frame e ++ rest → posted made e ≡ Ok m → Sofar (Some m) x (nth + 1) total rest → Sofar made x nth total bs
more made m x nth total bs e rest l p s =
    record {
      entries = e ∷ s.entries;
      rest = s.rest;
      layout = l ∙ ap (λ t. frame e ++ t) s.layout ∙ sym (append_assoc (frame e) (flat_map frame s.entries) s.rest);
      posts = (m, (p, s.posts));
      outcome = later x.0 x.1 nth total e s.entries s.rest s.outcome;
    }

-- the bytes hold the record of one entry only
read_one : (bs : List ℕ) (e : Entry) (rest : List ℕ) → bs ≡ frame e ++ rest → record_at bs ≡ Ok (e, rest)
read_one bs e rest l = ap record_at l ∙ reads e rest

refused_here : (made : Option Month) (bs : List ℕ) (e : Entry) (rest : List ℕ) (y : FileError) → bs ≡ frame e ++ rest → posted made e ≡ Err y → Barred made bs
refused_here made bs e rest y l q e' rest' m l' p =
    let same : e' ≡ e = ap (λ x. x.0) (ok_same (e', rest') (e, rest) (sym (read_one bs e' rest' l') ∙ read_one bs e rest l)) in
    err_ok y m (sym q ∙ ap (posted made) (sym same) ∙ p)

goes_on : (made : Option Month) (nth total : ℕ) (bs : List ℕ) (e : Entry) (rest : List ℕ) → bs ≡ frame e ++ rest → (go : Option Month → Reading) → ((m : Month) → Sofar (Some m) (go (Some m)) (nth + 1) total rest) → (y : Result Month FileError) → posted made e ≡ y → Sofar made (went_on made (place_at nth total bs) y go) nth total bs
goes_on made nth total bs e rest l go ih (Ok m) q = more made m (go (Some m)) nth total bs e rest l q (ih m)
goes_on made nth total bs e rest l go ih (Err y) q = stops made y nth total bs (refused_here made bs e rest y l q)

unread_here : (made : Option Month) (bs : List ℕ) (y : RecordError) → record_at bs ≡ Err y → Barred made bs
unread_here made bs y q e rest m l p = err_ok y (e, rest) (sym q ∙ read_one bs e rest l)

steps : (made : Option Month) (nth total : ℕ) (bs : List ℕ) → AllBytes bs → (go : Option Month → List ℕ → Reading) → ((m : Month) (rest : List ℕ) (e : Entry) → bs ≡ frame e ++ rest → Sofar (Some m) (go (Some m) rest) (nth + 1) total rest) → (x : Result (Entry × List ℕ) RecordError) → record_at bs ≡ x → Sofar made (stepped made (place_at nth total bs) x go) nth total bs
steps made nth total bs small go ih (Ok x) q =
    let l = is_frame bs x.0 x.1 small q in
    goes_on made nth total bs x.0 x.1 l (λ t. go t x.1) (λ m. ih m x.1 x.0 l) (posted made x.0) refl
steps made nth total bs small go ih (Err e) q = stops made (InRecord e) nth total bs (unread_here made bs e q)

bytes_after : (xs ys bs : List ℕ) → bs ≡ xs ++ ys → AllBytes bs → AllBytes ys
bytes_after xs ys bs e small k = omega (arith, get_or-append-add xs ys k 0, ap (λ t. get_or t (length xs + k) 0) e, small (length xs + k))

pub sound : (k : ℕ) (made : Option Month) (nth total : ℕ) (bs : List ℕ) → length bs ≤ k → AllBytes bs → Sofar made (read_on k made nth total bs) nth total bs
sound zero made nth total [] h small = ends made nth total
sound zero made nth total (b ∷ bs) h small = absurd (omega arith)
sound (suc k) made nth total [] h small = ends made nth total
sound (suc k) made nth total (b ∷ bs) h small =
    steps made nth total (b ∷ bs) small (λ t rest. read_on k t (nth + 1) total rest) (λ m rest e l. sound k (Some m) (nth + 1) total rest (omega (arith, ap length l, length-append (frame e) rest)) (bytes_after (frame e) rest (b ∷ bs) l small)) (record_at (b ∷ bs)) refl
