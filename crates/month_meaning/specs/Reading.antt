-- What the bytes of a month file mean: the month that they make, and the first fault. Assumes nothing.
use Rattle.std.specs.Prelude.{ℕ, zero, suc, ◌+◌, ◌-◌, List, [], ◌∷◌, length, Some, None, Ok, Err, Option, Result}
use Rattle.rules.specs.Checks.{unless}
use Rattle.agreement.specs.declared.refusals.Refusal.{Refusal}
use Rattle.agreement.specs.Calls.{after, answer}
use Rattle.month_format.specs.declared.errors.BytesError.{BytesError}
use Rattle.month_format.specs.declared.errors.RecordError.{RecordError}
use Rattle.month_format.specs.declared.errors.RecordError.TheVariants.{Bytes, MisplacedSetUp}
use Rattle.month_format.specs.declared.place.Place.{Place}
use Rattle.month_format.specs.Entries.{Entry, set_up, call}
use Rattle.month_format.specs.Files.{versioned}
use Rattle.month_format.specs.Records.{record_at}
use Rattle.month_meaning.specs.declared.errors.FileError.{FileError}
use Rattle.month_meaning.specs.declared.errors.FileError.TheVariants.{InRecord, InBook}
use Rattle.month_meaning.specs.declared.fault.Fault.{Fault}
use Rattle.month_meaning.specs.Faults.{fault, unplaced}
use Rattle.month_meaning.specs.Months.{Month, with_book, opening, set_up_refusal}

-- a month after a call that the book answered
abbrev pub answered : Result (Unit {0}) Refusal → Month → Result Month FileError
answered (Ok u) month = Ok month
answered (Err refusal) month = Err (InBook refusal)

-- the month after one entry more: a set-up comes first, and only once
abbrev pub posted : Option Month → Entry → Result Month FileError
posted None (set_up days bands average lowest) = unless (set_up_refusal days bands average lowest) (opening days bands average lowest)
posted None (call made) = Err (InRecord MisplacedSetUp)
posted (Some month) (set_up days bands average lowest) = Err (InRecord MisplacedSetUp)
posted (Some month) (call made) = answered (answer made month.book) (with_book (after made month.book) month)

-- what was read: the month that was made, if one was, and the first fault, if there is one
abbrev pub Reading : Type 0
Reading = Option Month × Result (Unit {0}) Fault

-- the place of the record after some, where so many bytes of the file are left
abbrev pub place_at : ℕ → ℕ → List ℕ → Place
place_at before total left = record { nth = before + 1; byte = total - length left }

-- the end of the file: without a set-up, its first record is missing
abbrev pub ended : Option Month → Place → Reading
ended None place = (None, Err (fault (InRecord MisplacedSetUp) place))
ended (Some month) place = (Some month, Ok tt)

-- an entry that is posted, or the first fault
abbrev pub went_on : Option Month → Place → Result Month FileError → (Option Month → Reading) → Reading
went_on made place (Ok month) go = go (Some month)
went_on made place (Err error) go = (made, Err (fault error place))

-- a record that is read, or the first fault
abbrev pub stepped : Option Month → Place → Result (Entry × List ℕ) RecordError → (Option Month → List ℕ → Reading) → Reading
stepped made place (Ok next) go = went_on made place (posted made next.0) (λ m. go m next.1)
stepped made place (Err error) go = (made, Err (fault (InRecord error) place))

-- what is read of the bytes that are left after some records, in so many turns at most
abbrev pub read_on : ℕ → Option Month → ℕ → ℕ → List ℕ → Reading
read_on zero made before total left = ended made (place_at before total left)
read_on (suc turns) made before total [] = ended made (place_at before total [])
read_on (suc turns) made before total (b ∷ left) = stepped made (place_at before total (b ∷ left)) (record_at (b ∷ left)) (λ m rest. read_on turns m (before + 1) total rest)

-- what comes after the version is read, or the file is refused before its first record
abbrev pub begun : Result (List ℕ) BytesError → (List ℕ → Reading) → Reading
begun (Ok left) go = go left
begun (Err error) go = (None, Err (unplaced (InRecord (Bytes error))))

-- what is read of a whole file
abbrev pub reading : List ℕ → Reading
reading file = begun (versioned file) (λ left. read_on (length file) None 0 (length file) left)

-- the caller's month after a file: what the file made, or else what it was
abbrev pub kept : Option Month → Option Month → Option Month
kept None before = before
kept (Some month) before = Some month
