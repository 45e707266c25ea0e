-- The month that a pool book keeps. Assumes nothing.
use Rattle.std.specs.Prelude.{Some, None, Option}
use Rattle.tariff.specs.declared.ladder.Ladder.{Ladder}
use Rattle.tariff.specs.declared.tolerance.Tolerance.{Tolerance}
use Rattle.tariff.specs.declared.overrun.Overrun.{Overrun}
use Rattle.pool.specs.declared.book.PoolBook.{PoolBook}
use Rattle.month_meaning.specs.Months.{Month}

-- the month of a pool book: its ladder, and the plain book
abbrev pub month_of : PoolBook Ladder Tolerance Overrun → Month
month_of book = record { bands = book.schedules.month.bands; average = book.schedules.month.average; lowest = book.schedules.month.lowest; book = book.table }

-- the month that the caller holds, if it holds one
abbrev pub held_by : Option (PoolBook Ladder Tolerance Overrun) → Option Month
held_by None = None
held_by (Some book) = Some (month_of book)
