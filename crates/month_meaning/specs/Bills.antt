-- The bills of a month, and that they split its charges fairly. Assumes nothing.
use Rattle.std.specs.Prelude.{◌≡◌, true, List, Some, None, Option}
use Rattle.tariff.specs.BandLines.{ladder_lines}
use Rattle.tariff.specs.Daily.{tolerance_lines, overrun_lines}
use Rattle.agreement.specs.declared.bills.Bill.{Bill}
use Rattle.agreement.specs.Bills.{bills}
use Rattle.agreement.specs.Book.{is_closed}
use Rattle.agreement.specs.Charges.{Terms, terms}
use Rattle.agreement.specs.FairSplit.{FairSplit}
use Rattle.month_meaning.specs.Months.{Month}

-- the terms of a month: the lines of its ladder, of the tolerance and of the overrun
abbrev pub terms_of : Month → Terms
terms_of month = terms (ladder_lines month.bands month.average month.lowest) tolerance_lines overrun_lines

-- the bills of a month's members
abbrev pub bills_of : Month → List Bill
bills_of month = bills (terms_of month) month.book

-- the bills of a month that is closed split its charges fairly
abbrev pub Fair : Option Month → Type 0
Fair None = Unit {0}
Fair (Some month) = is_closed month.book.status ≡ true → FairSplit (terms_of month) month.book (bills_of month)
