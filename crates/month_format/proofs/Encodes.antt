-- A record's bytes are taken apart into that record, and no other bytes are.
use Rattle.std.proofs.Common.{◌≡◌, ℕ, zero, suc, ◌+◌, ◌-◌, ◌*◌, ◌/◌, ◌%◌, ◌<◌, Bool, true, false, cond, eqb, List, [], ◌∷◌, ◌++◌, length, get_or, take, Ok, Err, Result, sym, refl, ap, ◌∙◌, arith, ne_eqb}
use Rattle.std.proofs.lemmas.List.{take_rest}
use Rattle.agreement.specs.declared.calls.Call.{Call}
use Rattle.agreement.specs.declared.calls.Posting.{Posting}
use Rattle.agreement.specs.declared.calls.Call.TheVariants.{Enrol, Nominate, Read, Receive, Notify, Close}
use Rattle.month_format.specs.declared.errors.RecordError.{RecordError}
use Rattle.month_format.specs.declared.errors.RecordError.TheVariants.{UnknownLetter, WrongLength}
use Rattle.month_format.specs.Fields.{quad, quad_at, AllBytes}
use Rattle.month_format.specs.Entries.{Entry, set_up, call, encode}
use Rattle.month_format.specs.Records.{sized, lettered, record_of, posting_of, posted}

pub quad_back : (n : ℕ) → n / 16777216 * 16777216 + n / 65536 % 256 * 65536 + n / 256 % 256 * 256 + n % 256 ≡ n
quad_back n = omega arith

posting_back : (p : Posting) → ◌≡◌ {A = Posting} (record { account = quad_at (quad p.account) 0; day = p.day; therms = quad_at (quad p.therms) 0 }) p
posting_back p = λ i. record { account = quad_back p.account i; day = p.day; therms = quad_back p.therms i }

pub decodes : (e : Entry) → record_of (encode e) ≡ Ok e
decodes (set_up d n a l) = λ i. Ok (set_up d n (quad_back a i) (quad_back l i))
decodes (call (Enrol a r)) = λ i. Ok (call (Enrol (quad_back a i) r))
decodes (call (Nominate p)) = ap (λ q. Ok (call (Nominate q))) (posting_back p)
decodes (call (Read p)) = ap (λ q. Ok (call (Read q))) (posting_back p)
decodes (call (Receive p)) = ap (λ q. Ok (call (Receive q))) (posting_back p)
decodes (call (Notify d)) = refl
decodes (call Close) = refl

-- a list as its elements in a row
abbrev spread : {X : Type 0} → (ℕ → X) → ℕ → List X
spread f zero = []
spread f (suc n) = f 0 ∷ spread (λ k. f (suc k)) n

spread_is : (n : ℕ) (xs : List ℕ) → length xs ≡ n → xs ≡ spread (λ k. get_or xs k 0) n
spread_is zero [] e = refl
spread_is zero (x ∷ xs) e = absurd (omega arith)
spread_is (suc n) [] e = absurd (omega arith)
spread_is (suc n) (x ∷ xs) e = ap (λ t. x ∷ t) (spread_is n xs (omega arith))

quad_of_lem : (a b c d : ℕ) → a < 256 → b < 256 → c < 256 → d < 256 → a ∷ b ∷ c ∷ d ∷ [] ≡ quad (a * 16777216 + b * 65536 + c * 256 + d)
quad_of_lem a b c d p q r s =
    let n = a * 16777216 + b * 65536 + c * 256 + d in
    let e0 : a ≡ n / 16777216 = omega arith in
    let e1 : b ≡ n / 65536 % 256 = omega arith in
    let e2 : c ≡ n / 256 % 256 = omega arith in
    let e3 : d ≡ n % 256 = omega arith in
    λ i. e0 i ∷ e1 i ∷ e2 i ∷ e3 i ∷ []

pub sized_ok : (fs : List ℕ) (n : ℕ) (x e : Entry) → sized fs n x ≡ Ok e → (length fs ≡ n) × (x ≡ e)
sized_ok fs n x e q = (grind arith, grind arith)

module _ (fs : List ℕ) (small : AllBytes fs) where
  fields_S : length fs ≡ 10 → fs ≡ get_or fs 0 0 ∷ get_or fs 1 0 ∷ (quad (quad_at fs 2) ++ quad (quad_at fs 6))
  fields_S e =
      let p = quad_of_lem (get_or fs 2 0) (get_or fs 3 0) (get_or fs 4 0) (get_or fs 5 0) (small 2) (small 3) (small 4) (small 5) in
      let q = quad_of_lem (get_or fs 6 0) (get_or fs 7 0) (get_or fs 8 0) (get_or fs 9 0) (small 6) (small 7) (small 8) (small 9) in
      spread_is 10 fs e ∙ (λ i. get_or fs 0 0 ∷ get_or fs 1 0 ∷ (p i ++ q i))

  fields_E : length fs ≡ 5 → fs ≡ quad (quad_at fs 0) ++ (get_or fs 4 0 ∷ [])
  fields_E e =
      let p = quad_of_lem (get_or fs 0 0) (get_or fs 1 0) (get_or fs 2 0) (get_or fs 3 0) (small 0) (small 1) (small 2) (small 3) in
      spread_is 5 fs e ∙ (λ i. p i ++ (get_or fs 4 0 ∷ []))

  fields_N : length fs ≡ 9 → fs ≡ quad (quad_at fs 0) ++ (get_or fs 4 0 ∷ quad (quad_at fs 5))
  fields_N e =
      let p = quad_of_lem (get_or fs 0 0) (get_or fs 1 0) (get_or fs 2 0) (get_or fs 3 0) (small 0) (small 1) (small 2) (small 3) in
      let q = quad_of_lem (get_or fs 5 0) (get_or fs 6 0) (get_or fs 7 0) (get_or fs 8 0) (small 5) (small 6) (small 7) (small 8) in
      spread_is 9 fs e ∙ (λ i. p i ++ (get_or fs 4 0 ∷ q i))

-- one letter's turn: the bytes are its record's, or another letter follows
turn : (c letter n : ℕ) (fs : List ℕ) (x e : Entry) (other : Result Entry RecordError) → (length fs ≡ n → letter ∷ fs ≡ encode x) → (other ≡ Ok e → c ∷ fs ≡ encode e) → cond (eqb c letter) (sized fs n x) other ≡ Ok e → c ∷ fs ≡ encode e
turn c letter n fs x e other here there q = grind (arith, here, there, sized_ok)

-- the posting that nine bytes say
abbrev said : List ℕ → Posting
said fs = record { account = quad_at fs 0; day = get_or fs 4 0; therms = quad_at fs 5 }

posted_is : (b : Bool) (p : Posting) (make : Posting → Call) → posted (cond b (Ok p) (Err WrongLength)) make ≡ cond b (Ok (call (make p))) (Err WrongLength)
posted_is true p make = refl
posted_is false p make = refl

-- the turn of a letter that posts a figure
turn_posting : (c letter : ℕ) (fs : List ℕ) (make : Posting → Call) (e : Entry) (other : Result Entry RecordError) → (length fs ≡ 9 → letter ∷ fs ≡ encode (call (make (said fs)))) → (other ≡ Ok e → c ∷ fs ≡ encode e) → cond (eqb c letter) (posted (posting_of fs) make) other ≡ Ok e → c ∷ fs ≡ encode e
turn_posting c letter fs make e other here there q = turn c letter 9 fs (call (make (said fs))) e other here there (ap (λ r. cond (eqb c letter) r other) (sym (posted_is (eqb (length fs) 9) (said fs) make)) ∙ q)

-- an error is no value
pub err_ok : {X Y : Type 0} (e : Y) (x : X) → ◌≡◌ {A = Result X Y} (Err e) (Ok x) → ⊥
err_ok e x q = grind arith

lettered_ok : (c : ℕ) (fs : List ℕ) (e : Entry) → AllBytes fs → lettered c fs ≡ Ok e → c ∷ fs ≡ encode e
lettered_ok c fs e small =
    turn c 83 10 fs _ e _ (λ l. ap (λ t. 83 ∷ t) (fields_S fs small l))
    (turn c 69 5 fs _ e _ (λ l. ap (λ t. 69 ∷ t) (fields_E fs small l))
    (turn_posting c 78 fs Nominate e _ (λ l. ap (λ t. 78 ∷ t) (fields_N fs small l))
    (turn_posting c 82 fs Read e _ (λ l. ap (λ t. 82 ∷ t) (fields_N fs small l))
    (turn_posting c 71 fs Receive e _ (λ l. ap (λ t. 71 ∷ t) (fields_N fs small l))
    (turn c 87 1 fs _ e _ (λ l. ap (λ t. 87 ∷ t) (spread_is 1 fs l))
    (turn c 67 0 fs _ e _ (λ l. ap (λ t. 67 ∷ t) (spread_is 0 fs l))
    (λ q. absurd (err_ok UnknownLetter e q))))))))

record_is : (c : ℕ) (fs : List ℕ) → record_of (c ∷ fs) ≡ lettered c fs
record_is c fs =
    let some : eqb (length (c ∷ fs)) 0 ≡ false = ne_eqb (length (c ∷ fs)) 0 (λ e. omega arith) in
    ap (λ b. cond b (Err UnknownLetter) (lettered c (take (length (c ∷ fs) - 1) fs))) some ∙ ap (lettered c) (take_rest (c ∷ fs) 1)

pub encodes : (bs : List ℕ) (e : Entry) → AllBytes bs → record_of bs ≡ Ok e → bs ≡ encode e
encodes [] e small q = absurd (err_ok UnknownLetter e q)
encodes (c ∷ fs) e small q = lettered_ok c fs e (λ k. small (suc k)) (sym (record_is c fs) ∙ q)
