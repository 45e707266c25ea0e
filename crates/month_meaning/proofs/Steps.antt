-- The reading of a file, record by record as the code reads it. Assumes nothing.
use Rattle.std.proofs.Common.{◌≡◌, ℕ, zero, suc, ◌+◌, ◌<◌, List, [], ◌∷◌, length, Some, Ok, Err, Option, Result, sym, refl, ap, ◌∙◌, arith}
use Rattle.month_format.specs.declared.errors.RecordError.{RecordError}
use Rattle.month_format.specs.declared.place.Place.{Place}
use Rattle.month_format.specs.Entries.{Entry}
use Rattle.month_format.specs.Records.{beside, record_at}
use Rattle.month_format.proofs.Encodes.{err_ok}
use Rattle.month_meaning.specs.declared.errors.FileError.{FileError}
use Rattle.month_meaning.specs.Faults.{fault}
use Rattle.month_meaning.specs.Months.{Month}
use Rattle.month_meaning.specs.Reading.{Reading, place_at, ended, went_on, stepped, read_on}
use Rattle.month_meaning.specs.Layers.{month_or, done, posted_read}

stepped_as : (made : Option Month) (p : Place) (go : Option Month → List ℕ → Reading) (r : Result Entry RecordError) (rest : List ℕ) → stepped made p (beside r rest) go ≡ went_on made p (posted_read made r) (λ m. go m rest)
stepped_as made p go (Ok e) rest = refl
stepped_as made p go (Err y) rest = refl

-- one record
pub read_turn : (k m : ℕ) (made : Option Month) (nth total : ℕ) (bs : List ℕ) (r : Result Entry RecordError) (rest : List ℕ) → m ≡ suc k → 0 < length bs → record_at bs ≡ beside r rest → read_on m made nth total bs ≡ went_on made (place_at nth total bs) (posted_read made r) (λ t. read_on k t (nth + 1) total rest)
read_turn k m made nth total [] r rest turns some q = absurd (omega arith)
read_turn k m made nth total (b ∷ bs) r rest turns some q =
    let p = place_at nth total (b ∷ bs) in
    let go : Option Month → List ℕ → Reading = λ t left. read_on k t (nth + 1) total left in
    ap (λ j. read_on j made nth total (b ∷ bs)) turns ∙ ap (λ x. stepped made p x go) q ∙ stepped_as made p go r rest

-- no record
pub read_end : (k : ℕ) (made : Option Month) (nth total : ℕ) (bs : List ℕ) → bs ≡ [] → read_on k made nth total bs ≡ ended made (place_at nth total bs)
read_end zero made nth total bs e = refl
read_end (suc k) made nth total [] e = refl
read_end (suc k) made nth total (b ∷ bs) e = absurd (omega (arith, ap length e))

-- a record that is posted over a month, and one that is not
module _ (m : Month) (p : Place) (go : Option Month → Reading) where
  pub went_done : (r : Result Month FileError) → Ok tt ≡ done r → went_on (Some m) p r go ≡ go (Some (month_or m r))
  went_done (Ok t) q = refl
  went_done (Err y) q = absurd (err_ok y tt (sym q))

  pub went_refused : (r : Result Month FileError) (y : FileError) → Err y ≡ done r → went_on (Some m) p r go ≡ (Some (month_or m r), Err (fault y p))
  went_refused (Ok t) y q = absurd (err_ok y tt q)
  went_refused (Err z) y q = let same : y ≡ z = cc in ap (λ e. (Some m, Err (fault e p))) (sym same)
