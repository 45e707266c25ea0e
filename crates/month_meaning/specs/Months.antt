-- A month as a file makes it: the ladder of its set-up, and the plain book. Assumes nothing.
use Rattle.std.specs.Prelude.{ℕ, Bool, not, ◌||◌, [], ◌∷◌, Option, ◌==◌}
use Rattle.std.specs.Option.{option_map}
use Rattle.rules.specs.Checks.{◌when◌, first, refusal_of}
use Rattle.tariff.specs.declared.ladder.Bands.{Bands}
use Rattle.tariff.specs.Refusals.{ladder_refusal}
use Rattle.tariff.specs.Tables.{bands_of}
use Rattle.agreement.specs.Book.{Book, opened}
use Rattle.agreement.specs.Months.{checked}
use Rattle.month_format.specs.declared.errors.RecordError.TheVariants.{BadBandCount}
use Rattle.month_meaning.specs.declared.errors.FileError.{FileError}
use Rattle.month_meaning.specs.declared.errors.FileError.TheVariants.{InRecord, InLadder, InBook}

-- a month: the bands and the prices of its ladder, and its book
pub record Month : Type 0 where
  pub bands : Bands
  pub average : ℕ
  pub lowest : ℕ
  pub book : Book

-- a month with another book
abbrev pub with_book : Book → Month → Month
with_book book month = record { bands = month.bands; average = month.average; lowest = month.lowest; book = book }

-- the month that a set-up makes
abbrev pub opening : ℕ → ℕ → ℕ → ℕ → Month
opening days bands average lowest = record { bands = bands_of bands; average = average; lowest = lowest; book = opened days }

-- whether a ladder has so many bands
abbrev pub is_band_count : ℕ → Bool
is_band_count bands = bands == 6 || bands == 4

-- why a set-up is refused, if it is: the number of bands, then the days, then the prices
abbrev pub set_up_refusal : ℕ → ℕ → ℕ → ℕ → Option FileError
set_up_refusal days bands average lowest =
    first (InRecord BadBandCount when not (is_band_count bands) ∷ option_map InBook (refusal_of (checked days)) ∷ option_map InLadder (ladder_refusal bands average lowest) ∷ [])
