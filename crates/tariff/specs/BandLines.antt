-- The lines of a ladder, and that they are a schedule. Assumes nothing.
use Rattle.std.specs.Prelude.{◌≡◌, ℕ, ◌+◌, ◌-◌, ◌*◌, ◌≤◌, Bool, true, ◌&&◌, List, [], ◌∷◌, ◌++◌, pos, neg_ℤ, nat_le, unsigned_abs, refl}
use Rattle.std.proofs.Common.{mul-le-mul, mul-le-mul_left, le_trans, arith}
use Rattle.std.proofs.lemmas.Bool.{le-leb, leb-true, and_parts, and_from}
use Rattle.schedule.specs.declared.line.Line.{Line}
use Rattle.schedule.specs.Lines.{line, within_limits}
use Rattle.schedule.specs.Schedules.{all_within_limits, is_schedule}
use Rattle.schedule.proofs.Products.{nat_abs_neg}
use Rattle.tariff.specs.declared.ladder.Bands.{Bands}
use Rattle.tariff.specs.declared.ladder.Bands.TheVariants.{Six, Four}
use Rattle.tariff.specs.declared.ladder.BandLine.{BandLine}
use Rattle.tariff.specs.declared.ladder.BandLine.TheVariants.{Short, Long}
use Rattle.tariff.specs.Joined.{all_joined}
use Rattle.tariff.specs.Tables.{Band, short_bands, long_bands}

-- a band's line: 40 × percentage × price of the difference, less price × offset of the base
abbrev pub band_line : ℕ → ℕ → ℕ → Line
band_line price percent offset = line (pos (40 * percent * price)) (neg_ℤ (pos (price * offset)))

-- a line at a ladder's prices: short gas at the average, long gas at the lowest
abbrev pub line_of : ℕ → ℕ → BandLine → Line
line_of average lowest (Short percent offset) = band_line average percent offset
line_of average lowest (Long percent offset) = band_line lowest percent offset

-- by how much two percentages differ
abbrev pub change : ℕ → ℕ → ℕ
change p q = (q - p) + (p - q)

-- a band's offset: that of the band before it, and its own edge times the change of percentage there
abbrev pub offset_of : ℕ → ℕ → Band → ℕ
offset_of before offset b = offset + b.from * change before b.percent

-- the lines of the bands that follow a band with this percentage and this offset
abbrev pub band_lines : ℕ → ℕ → ℕ → List Band → List Line
band_lines price before offset [] = []
band_lines price before offset (b ∷ bs) =
    band_line price b.percent (offset_of before offset b) ∷ band_lines price b.percent (offset_of before offset b) bs

-- the short lines and then the long lines, each from the first band up
abbrev pub ladder_lines : Bands → ℕ → ℕ → List Line
ladder_lines bands average lowest =
    band_lines average 10 0 (short_bands bands) ++ band_lines lowest 10 0 (long_bands bands)

-- every band has a percentage of at most 150 and an offset of at most 36
abbrev small : ℕ → ℕ → List Band → Bool
small before offset [] = true
small before offset (b ∷ bs) =
    (nat_le b.percent 15 && nat_le (offset_of before offset b) 36) && small b.percent (offset_of before offset b) bs

within : (price percent offset : ℕ) → price ≤ 30000 → percent ≤ 15 → offset ≤ 36 → within_limits (band_line price percent offset) ≡ true
within price percent offset p q r =
    let k : price * offset ≤ 30000 * 36 = mul-le-mul p r in
    let a : 40 * percent * price ≤ 24000000 = le_trans (mul-le-mul (mul-le-mul_left 40 q) p) (omega arith) in
    let b : unsigned_abs (neg_ℤ (pos (price * offset))) ≤ 6000000 = rw nat_abs_neg (omega arith) in
    and_from (nat_le (40 * percent * price) 24000000) (nat_le (unsigned_abs (neg_ℤ (pos (price * offset)))) 6000000) (le-leb _ _ a) (le-leb _ _ b)

-- such bands' lines are within the limits at every accepted price
all_within : (price before offset : ℕ) (bs : List Band) → price ≤ 30000 → small before offset bs ≡ true → all_within_limits (band_lines price before offset bs) ≡ true
all_within price before offset [] h k = refl
all_within price before offset (b ∷ bs) h k =
    let o = offset_of before offset b in
    let s = and_parts (nat_le b.percent 15 && nat_le o 36) (small b.percent o bs) k in
    let t = and_parts (nat_le b.percent 15) (nat_le o 36) s.0 in
    and_from (within_limits (band_line price b.percent o)) (all_within_limits (band_lines price b.percent o bs)) (within price b.percent o h (leb-true _ _ t.0) (leb-true _ _ t.1)) (all_within price b.percent o bs h s.1)

-- a ladder's lines are a schedule
pub ladder_lawful : (bands : Bands) (average lowest : ℕ) → average ≤ 30000 → lowest ≤ average → is_schedule (ladder_lines bands average lowest) ≡ true
ladder_lawful Six average lowest h l =
    all_joined (band_lines average 10 0 (short_bands Six)) (band_lines lowest 10 0 (long_bands Six)) (all_within average 10 0 (short_bands Six) h refl) (all_within lowest 10 0 (long_bands Six) (le_trans l h) refl)
ladder_lawful Four average lowest h l =
    all_joined (band_lines average 10 0 (short_bands Four)) (band_lines lowest 10 0 (long_bands Four)) (all_within average 10 0 (short_bands Four) h refl) (all_within lowest 10 0 (long_bands Four) (le_trans l h) refl)
