-- The tariff's tables of bands. Assumes nothing.
use Rattle.std.specs.Prelude.{ℕ, cond, List, [], ◌∷◌, ◌==◌}
use Rattle.tariff.specs.declared.ladder.Bands.{Bands}
use Rattle.tariff.specs.declared.ladder.Bands.TheVariants.{Six, Four}

-- a band of the imbalance: from how many fortieths of the base it reaches up, and its percentage of the price in tens
pub record Band : Type 0 where
  pub from : ℕ
  pub percent : ℕ

abbrev pub band : ℕ → ℕ → Band
band f p = record { from = f; percent = p }

-- the bands of short gas, priced at the average
abbrev pub short_bands : Bands → List Band
short_bands Six = band 0 10 ∷ band 1 11 ∷ band 2 12 ∷ band 3 13 ∷ band 4 14 ∷ band 5 15 ∷ []
short_bands Four = band 0 10 ∷ band 4 11 ∷ band 8 12 ∷ band 12 14 ∷ []

-- the bands of long gas, priced at the lowest
abbrev pub long_bands : Bands → List Band
long_bands Six = band 0 10 ∷ band 1 9 ∷ band 2 8 ∷ band 3 7 ∷ band 4 6 ∷ band 5 5 ∷ []
long_bands Four = band 0 10 ∷ band 4 9 ∷ band 8 8 ∷ band 12 6 ∷ []

-- the bands that an accepted count, 6 or 4, stands for
abbrev pub bands_of : ℕ → Bands
bands_of count = cond (count == 6) Six Four
