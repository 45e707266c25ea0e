-- The worked figures, over the definitions that the contracts cite. Assumes nothing.
use Rattle.std.specs.Prelude.{◌≡◌, ℕ, ◌+◌, ◌*◌, ℤ, pos, ◌+ℤ◌, ◌*ℤ◌, neg_ℤ}
use Rattle.schedule.specs.Charges.{charge}
use Rattle.tariff.specs.declared.ladder.Bands.TheVariants.{Six}
use Rattle.tariff.specs.BandLines.{ladder_lines}
use Rattle.tariff.specs.Banded.{banded}
use Rattle.tariff.specs.Daily.{tolerance_lines, overrun_lines}
use Rattle.agreement.specs.Cents.{rounded, cents_after}
use Rattle.billing.specs.Late.{late}
use Rattle.month_listing.specs.Printed.{printed}
use Rattle.figures.specs.Example.{month_file, its_listing}

-- dollars and ten-thousandths of a dollar, in grains
abbrev pub dollars : ℕ → ℕ → ℤ
dollars whole ten_thousandths = pos (4000000000 * whole + 400000 * ten_thousandths)

-- what the ladder of six bands at 5,000 and 4,000 charges on so many therms of difference and of base
abbrev pub cash_out : ℤ → ℕ → ℤ
cash_out difference base = charge (difference *ℤ pos 1000) (1000 * base) (ladder_lines Six 5000 4000)

-- what it is in the words of the tariff
abbrev pub in_bands : ℤ → ℕ → ℤ
in_bands difference base = banded Six 5000 4000 (difference *ℤ pos 1000) (1000 * base)

-- what a day costs, used less nominated, on what is nominated
abbrev pub balancing : ℤ → ℕ → ℤ
balancing difference base = charge (difference *ℤ pos 1000) (1000 * base) tolerance_lines

-- what a notified day costs besides
abbrev pub overrun : ℤ → ℕ → ℤ
overrun difference base = charge (difference *ℤ pos 1000) (1000 * base) overrun_lines

pub record Figures : Type 0 where
  -- 25 short on 1,000 therms cost $12.50, and 26 short $13.05
  pub short_25 : cash_out (pos 25) 1000 ≡ dollars 12 5000
  pub short_26 : cash_out (pos 26) 1000 ≡ dollars 13 500
  pub short_26_in_bands : in_bands (pos 26) 1000 ≡ dollars 13 500
  -- on base 0, 10 short cost $7.50 and 10 long are credited $2.00
  pub short_on_nothing : cash_out (pos 10) 0 ≡ dollars 7 5000
  pub long_on_nothing : cash_out (neg_ℤ (pos 10)) 0 ≡ neg_ℤ (dollars 2 0)
  -- of 1,000 nominated, 1,100 used cost nothing, 1,101 or 899 cost $0.025
  pub used_1100 : balancing (pos 100) 1000 ≡ dollars 0 0
  pub used_1101 : balancing (pos 101) 1000 ≡ dollars 0 250
  pub used_899 : balancing (neg_ℤ (pos 101)) 1000 ≡ dollars 0 250
  -- and on a day with a notice 1,101 cost $3.025, or 303 cents
  pub noticed_1101 : (balancing (pos 101) 1000 +ℤ overrun (pos 101) 1000) ≡ dollars 3 250
  pub noticed_1101_in_cents : rounded (balancing (pos 101) 1000 +ℤ overrun (pos 101) 1000) ≡ pos 303
  -- three shares of 16,000,000 grains give 0, 1 and 0 cents
  pub first_of_three : cents_after (pos 0) (pos 16000000) ≡ pos 0
  pub second_of_three : cents_after (pos 16000000) (pos 16000000) ≡ pos 1
  pub third_of_three : cents_after (pos 32000000) (pos 16000000) ≡ pos 0
  -- late on 4, 5, 300 and 10,000 cents adds 0, 1, 30 and 321
  pub late_4 : late (pos 4) ≡ 0
  pub late_5 : late (pos 5) ≡ 1
  pub late_300 : late (pos 300) ≡ 30
  pub late_10000 : late (pos 10000) ≡ 321
  -- the month file of two members is listed so
  pub listed : printed month_file ≡ its_listing
