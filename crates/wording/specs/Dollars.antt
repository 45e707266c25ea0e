-- What is printed of an amount of money. Assumes nothing.
use Rattle.std.specs.Prelude.{ℕ, zero, suc, ◌/◌, ◌%◌, ◌^◌, Bool, cond, List, [], ◌++◌, codes, decimal, ◌==◌}

-- the digits of so many decimal places, of a rest in units of the last of them: none behind the last that is not 0
abbrev pub places_of : ℕ → ℕ → List ℕ
places_of zero rest = []
places_of (suc n) rest = cond (rest == 0) [] (decimal (rest / 10 ^ n) ++ places_of n (rest % 10 ^ n))

-- a minus before a credit
abbrev pub sign_of : Bool → List ℕ
sign_of credit = cond credit (codes "-") []

-- the sign, the dollars, a point, the two places of the cents, and nine more for a fraction of a cent
abbrev pub dollar_text : Bool → ℕ → ℕ → List ℕ
dollar_text credit whole fraction =
    sign_of credit ++ (codes "$" ++ (decimal whole ++ (codes "." ++ (decimal (fraction / 10000000000) ++ (decimal (fraction / 1000000000 % 10) ++ places_of 9 (fraction % 1000000000))))))
