-- The bills of a book that is held split its charges fairly. Assumes nothing.
use Rattle.std.proofs.Common.{◌≡◌, true, Some, None, Option}
use Rattle.tariff.specs.declared.ladder.Ladder.{Ladder}
use Rattle.tariff.specs.declared.tolerance.Tolerance.{Tolerance}
use Rattle.tariff.specs.declared.overrun.Overrun.{Overrun}
use Rattle.tariff.specs.BandLines.{ladder_lawful}
use Rattle.tariff.specs.Daily.{tolerance_lawful, overrun_lawful}
use Rattle.agreement.specs.Book.{is_closed}
use Rattle.agreement.specs.FairSplit.{FairSplit}
use Rattle.agreement.proofs.Fairness.{fair}
use Rattle.pool.specs.declared.book.PoolBook.{PoolBook}
use Rattle.pool.proofs.Small.{book_small}
use Rattle.month_meaning.specs.Bills.{Fair, terms_of, bills_of}
use Rattle.month_file.specs.Views.{month_of, held_by}

pub fair_made : (book : PoolBook Ladder Tolerance Overrun) → is_closed book.table.status ≡ true → FairSplit (terms_of (month_of book)) book.table (bills_of (month_of book))
fair_made book closed =
    let l = book.schedules.month in
    fair (terms_of (month_of book)) book.table (ladder_lawful l.bands l.average l.lowest l.high l.low) tolerance_lawful overrun_lawful (book_small book.table book.limits)

pub fair_held : (book : Option (PoolBook Ladder Tolerance Overrun)) → Fair (held_by book)
fair_held None = tt
fair_held (Some book) = fair_made book
