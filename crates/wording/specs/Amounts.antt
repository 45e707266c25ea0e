-- Which amount in dollars so many grains or cents are, and what is printed of it. Assumes nothing.
use Rattle.std.specs.Prelude.{◌≡◌, ℕ, ◌+◌, ◌*◌, ◌/◌, ◌%◌, ◌<◌, List, ℤ, pos, int_lt, unsigned_abs}
use Rattle.wording.specs.declared.dollars.Dollars.{Dollars}
use Rattle.wording.specs.Dollars.{dollar_text}

-- exactly so many units, of which each is worth so many of the eleventh decimal place of a dollar; below 0 a credit
pub record IsExactly (worth : ℕ) (units : ℤ) (dollars : Dollars) : Type 0 where
  pub sign : dollars.is_credit ≡ int_lt units (pos 0)
  pub size : dollars.whole * 100000000000 + dollars.fraction ≡ worth * unsigned_abs units
  pub below : dollars.fraction < 100000000000

-- what is printed of so many units, of which each is worth so many of the eleventh decimal place of a dollar
abbrev pub amount_text : ℕ → ℤ → List ℕ
amount_text worth units =
    dollar_text (int_lt units (pos 0)) (worth * unsigned_abs units / 100000000000) (worth * unsigned_abs units % 100000000000)

-- what is printed of so many grains
abbrev pub grains_text : ℤ → List ℕ
grains_text = amount_text 25

-- what is printed of so many cents
abbrev pub cents_text : ℤ → List ℕ
cents_text = amount_text 1000000000
