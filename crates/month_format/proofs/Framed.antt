-- A frame is cut off and read, and nothing else is.
use Rattle.std.proofs.Common.{◌≡◌, ℕ, suc, ◌+◌, ◌*◌, ◌/◌, ◌%◌, ◌<◌, ◌≤◌, ltb, List, [], ◌∷◌, ◌++◌, length, take, drop, Ok, Err, Result, sym, refl, ap, ◌∙◌, subst, arith, le-ltb}
use Rattle.std.proofs.lemmas.Bool.{cond-false}
use Rattle.std.proofs.lemmas.Grind.{common_steps}
use Rattle.std.proofs.lemmas.List.{take_at, drop_at, length-append, take-append-drop, length-take-le, get_or-drop, drop-drop}
use Rattle.month_format.specs.declared.errors.BytesError.{BytesError}
use Rattle.month_format.specs.declared.errors.RecordError.{RecordError}
use Rattle.month_format.specs.Fields.{AllBytes}
use Rattle.month_format.specs.Entries.{Entry, encode, frame}
use Rattle.month_format.specs.Records.{record_of, size_of, cut_of, taken, beside, record_at}
use Rattle.month_format.specs.Readings.{Reads}
use Rattle.month_format.proofs.Encodes.{decodes, encodes}

abbrev Cut : Type 0
Cut = Result (List ℕ × List ℕ) BytesError

cut_framed : (h l : ℕ) (xs rest : List ℕ) → length xs ≡ h * 256 + l → cut_of (h ∷ l ∷ (xs ++ rest)) ≡ Ok (xs, rest)
cut_framed h l xs rest e =
    let bs = h ∷ l ∷ (xs ++ rest) in
    let n = h * 256 + l in
    let len = length-append xs rest in
    let two : 2 ≤ length bs = omega arith in
    let fits : 2 + n ≤ length bs = omega arith in
    let front = take_at xs rest n e in
    let back = drop_at (h ∷ l ∷ xs) rest (2 + n) (omega arith) in
    cond-false (ltb (length bs) 2) _ _ (le-ltb (length bs) 2 two) ∙ cond-false (ltb (length bs) (2 + n)) _ _ (le-ltb (length bs) (2 + n) fits) ∙ (λ i. Ok (front i, back i))

pub reads : (e : Entry) (rest : List ℕ) → record_at (frame e ++ rest) ≡ Ok (e, rest)
reads e rest =
    let n = length (encode e) in
    ap taken (cut_framed (n / 256) (n % 256) (encode e) rest (omega arith)) ∙ ap (λ r. beside r rest) (decodes e)

-- what a cut that went well says
pub record Cut-off (bs f r : List ℕ) : Type 0 where
  pub two : 2 ≤ length bs
  pub fits : 2 + size_of bs ≤ length bs
  pub front : take (size_of bs) (drop 2 bs) ≡ f
  pub back : drop (2 + size_of bs) bs ≡ r

cut_off : (bs f r : List ℕ) → cut_of bs ≡ Ok (f, r) → Cut-off bs f r
cut_off bs f r q = record { two = grind arith; fits = grind arith; front = grind arith; back = grind arith }

pub record Read-off (bs : List ℕ) (e : Entry) (r : List ℕ) : Type 0 where
  pub bytes : List ℕ
  pub cut : cut_of bs ≡ Ok (bytes, r)
  pub is : record_of bytes ≡ Ok e

beside_ok : (bs f r : List ℕ) (x : Result Entry RecordError) (e : Entry) (rest : List ℕ) → cut_of bs ≡ Ok (f, r) → record_of f ≡ x → beside x r ≡ Ok (e, rest) → Read-off bs e rest
beside_ok bs f r (Ok e') e rest c p q = record { bytes = f; cut = grind arith; is = grind arith }
beside_ok bs f r (Err y) e rest c p q = absurd (grind arith)

read_off : (bs : List ℕ) (x : Cut) (e : Entry) (rest : List ℕ) → cut_of bs ≡ x → taken x ≡ Ok (e, rest) → Read-off bs e rest
read_off bs (Ok p) e rest c q = beside_ok bs p.0 p.1 (record_of p.0) e rest c refl q
read_off bs (Err y) e rest c q = absurd (grind arith)

pub bytes_drop : (n : ℕ) (bs : List ℕ) → AllBytes bs → AllBytes (drop n bs)
bytes_drop n bs small k = omega (arith, get_or-drop n bs k 0, small (n + k))

pub bytes_take : (n : ℕ) (bs : List ℕ) → AllBytes bs → AllBytes (take n bs)
bytes_take n bs small k = grind (arith, common_steps, small k)

pub is_frame : (bs : List ℕ) (e : Entry) (rest : List ℕ) → AllBytes bs → record_at bs ≡ Ok (e, rest) → bs ≡ frame e ++ rest
is_frame [] e rest small q = let o = read_off [] (cut_of []) e rest refl q in absurd (omega (arith, (cut_off [] o.bytes rest o.cut).two))
is_frame (h ∷ []) e rest small q = let o = read_off (h ∷ []) (cut_of (h ∷ [])) e rest refl q in absurd (omega (arith, (cut_off (h ∷ []) o.bytes rest o.cut).two))
is_frame (h ∷ l ∷ ds) e rest small q =
    let bs = h ∷ l ∷ ds in
    let o = read_off bs (cut_of bs) e rest refl q in
    let c = cut_off bs o.bytes rest o.cut in
    let n = h * 256 + l in
    let low : l < 256 = small 1 in
    let some : n ≤ length ds = omega (arith, c.fits) in
    let front : take n ds ≡ encode e = c.front ∙ encodes o.bytes e (subst AllBytes c.front (bytes_take n ds (λ k. small (suc (suc k))))) o.is in
    let back : drop n ds ≡ rest = drop-drop n 2 bs ∙ c.back in
    let size : length (encode e) ≡ n = ap length (sym front) ∙ length-take-le n ds some in
    let high : h ≡ length (encode e) / 256 = omega arith in
    let less : l ≡ length (encode e) % 256 = omega arith in
    let both : ds ≡ encode e ++ rest = sym (take-append-drop n ds) ∙ (λ i. front i ++ back i) in
    λ i. high i ∷ less i ∷ both i

-- the record that bytes begin with is read, and no other
pub exactly : (bs : List ℕ) → AllBytes bs → Reads bs (record_at bs)
exactly bs small = record {
  whenever = λ e rest l. ap record_at l ∙ reads e rest;
  only = λ e rest q. is_frame bs e rest small q;
}

-- the same of whatever equals the reading
pub exactly_as : (bs : List ℕ) (r : Result (Entry × List ℕ) RecordError) → AllBytes bs → r ≡ record_at bs → Reads bs r
exactly_as bs r small e = subst (Reads bs) (sym e) (exactly bs small)
