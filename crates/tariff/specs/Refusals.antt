-- The refusals of a ladder and of a list of lines: their numbers, what is said of them, and the checks in their order. Assumes nothing.
use Rattle.std.specs.Prelude.{ℕ, codes, List, not, ◌||◌, [], ◌∷◌, Option, Result, ◌==◌, nat_lt}
use Rattle.rules.specs.Checks.{◌when◌, first, unless}
use Rattle.tariff.specs.declared.ladder.Bands.{Bands}
use Rattle.tariff.specs.declared.refusal.Refusal.{Refusal}
use Rattle.tariff.specs.declared.refusal.Refusal.TheVariants.{PriceTooHigh, LowestAboveAverage, BadLineList, BadBandCount}
use Rattle.tariff.specs.Tables.{bands_of}

-- the number of each refusal
abbrev pub number : Refusal → ℕ
number PriceTooHigh = 2
number LowestAboveAverage = 3
number BadLineList = 4
number BadBandCount = 46

-- what is said of each refusal
abbrev pub reason : Refusal → List ℕ
reason PriceTooHigh = codes "a price is above 30000"
reason LowestAboveAverage = codes "the lowest price is above the average"
reason BadLineList = codes "the list of lines is not a schedule"
reason BadBandCount = codes "there are ladders of 6 and of 4 bands only"

-- the refusal of a count of bands that is neither six nor four
abbrev pub band_count_refusal : ℕ → Option Refusal
band_count_refusal count = BadBandCount when not (count == 6 || count == 4)

-- the bands that a count stands for
abbrev pub bands_counted : ℕ → Result Bands Refusal
bands_counted count = unless (band_count_refusal count) (bands_of count)

-- why a ladder of these is refused: not six or four bands; a price above 30,000; the lowest price above the average
abbrev pub ladder_refusal : ℕ → ℕ → ℕ → Option Refusal
ladder_refusal bands average lowest =
    first (band_count_refusal bands ∷ PriceTooHigh when (nat_lt 30000 average || nat_lt 30000 lowest) ∷ LowestAboveAverage when nat_lt average lowest ∷ [])
