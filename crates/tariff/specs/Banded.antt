-- The banded amount: each part of an imbalance priced at the percentage of the band that it falls in. Assumes nothing.
use Rattle.std.specs.Prelude.{ℕ, suc, ◌+◌, ◌-◌, ◌*◌, min, List, [], ◌∷◌, ℤ, pos, negsuc, neg_ℤ}
use Rattle.tariff.specs.declared.ladder.Bands.{Bands}
use Rattle.tariff.specs.Tables.{Band, short_bands, long_bands}

-- the part of a quantity that lies between two edges
abbrev pub between : ℕ → ℕ → ℕ → ℕ
between low high quantity = min quantity high - low

-- each band's percentage of the part that falls in it; a band ends where the next begins, and the last has no end;
-- the edges are in fortieths of the base, and so is the quantity
abbrev pub parts : List Band → ℕ → ℕ → ℕ
parts [] base quantity = 0
parts (b ∷ []) base quantity = b.percent * (quantity - b.from * base)
parts (b ∷ (c ∷ bs)) base quantity =
    b.percent * between (b.from * base) (c.from * base) quantity + parts (c ∷ bs) base quantity

-- short gas is charged at the average price, and long gas is credited at the lowest, in grains
abbrev pub banded : Bands → ℕ → ℕ → ℤ → ℕ → ℤ
banded bands average lowest (pos n) base = pos (average * parts (short_bands bands) base (40 * n))
banded bands average lowest (negsuc k) base = neg_ℤ (pos (lowest * parts (long_bands bands) base (40 * suc k)))
