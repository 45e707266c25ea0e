-- What is printed of a month. Assumes nothing.
use Rattle.std.specs.Prelude.{ℕ, List, [], ◌∷◌, ◌++◌, length, map, take, ℤ, codes, decimal}
use Rattle.std.specs.List.{flat_map}
use Rattle.std.specs.Fmt.{signed_decimal}
use Rattle.agreement.specs.declared.bills.Bill.{Bill}
use Rattle.agreement.specs.Limits.{most_members}
use Rattle.month_meaning.specs.declared.fault.Fault as the_fault
use Rattle.month_meaning.specs.Faults.{numbers}
use Rattle.listing.specs.declared.listing.Listing.{Listing}
use Rattle.listing.specs.declared.listing.Listing.TheVariants.{Closed, Open, Fault, FaultNumbers}
use Rattle.listing.specs.Lines.{line}

-- the days of the month and the number of members
abbrev pub head_line : ℕ → ℕ → List ℕ
head_line days members = line (decimal days ∷ decimal members ∷ [])

-- an account and its cents
abbrev pub bill_line : Bill → List ℕ
bill_line bill = line (decimal bill.account ∷ signed_decimal bill.cents ∷ [])

-- the total cents
abbrev pub total_line : ℤ → List ℕ
total_line total = line (signed_decimal total ∷ [])

-- a closed month
abbrev pub closed_listing : ℕ → List Bill → ℤ → List ℕ
closed_listing days bills total = head_line days (length bills) ++ (flat_map bill_line bills ++ total_line total)

-- a month that is still open
abbrev pub open_line : List ℕ
open_line = line (codes "OPEN" ∷ [])

-- the six numbers of a fault: layer, number, record, byte, member and day
abbrev pub numbers_line : List ℕ → List ℕ
numbers_line numbers = line (codes "FAULT" ∷ map decimal numbers)

-- a fault, by its numbers
abbrev pub fault_line : the_fault.Fault → List ℕ
fault_line fault = numbers_line (numbers fault)

-- a listing: of more bills than a full pool has, the first ones are listed
abbrev pub listing_text : Listing → List ℕ
listing_text (Closed days bills total) = closed_listing days (take most_members bills.now) total
listing_text Open = open_line
listing_text (Fault fault) = fault_line fault
listing_text (FaultNumbers numbers) = numbers_line numbers
