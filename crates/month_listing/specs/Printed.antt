-- What is printed of a month file, and that the bills on it split the charges fairly. Assumes nothing.
use Rattle.std.specs.Prelude.{ℕ, Bool, true, false, List, Some, None, Ok, Err, Option, Result}
use Rattle.agreement.specs.declared.bills.Bill.{Bill}
use Rattle.agreement.specs.Book.{is_closed}
use Rattle.agreement.specs.Sums.{sum_of}
use Rattle.listing.specs.Listing.{closed_listing, open_line, fault_line}
use Rattle.month_meaning.specs.declared.fault.Fault.{Fault}
use Rattle.month_meaning.specs.Bills.{bills_of, Fair}
use Rattle.month_meaning.specs.Months.{Month}
use Rattle.month_meaning.specs.Reading.{reading}

-- the bills of a closed month, or that it is open
abbrev pub when_closed : Bool → Month → List ℕ
when_closed true month = closed_listing month.book.days (bills_of month) (sum_of (λ (bill : Bill). bill.cents) (bills_of month))
when_closed false month = open_line

-- what is printed of a month; where there is none, it is not closed
abbrev pub printed_month : Option Month → List ℕ
printed_month None = open_line
printed_month (Some month) = when_closed (is_closed month.book.status) month

-- what is printed of a file that was read to its end, and of one that has a fault
abbrev pub printed_answer : Option Month → Result (Unit {0}) Fault → List ℕ
printed_answer made (Ok u) = printed_month made
printed_answer made (Err fault) = fault_line fault

-- what is printed of a file
abbrev pub printed : List ℕ → List ℕ
printed file = printed_answer (reading file).0 (reading file).1

-- the bills that are printed of a file split the charges of its month fairly
abbrev pub FairAnswer : Option Month → Result (Unit {0}) Fault → Type 0
FairAnswer made (Ok u) = Fair made
FairAnswer made (Err fault) = Unit {0}

abbrev pub FairlyListed : List ℕ → Type 0
FairlyListed file = FairAnswer (reading file).0 (reading file).1
