-- When a file is a month's file, and what a fault says: relations over whole files. Assumes nothing.
use Rattle.std.specs.Prelude.{◌≡◌, ℕ, suc, ◌≤◌, ◌⊎◌, List, [], ◌∷◌, ◌++◌, map, length, take, drop, Some, None, Ok, Err, Option, Result}
use Rattle.agreement.specs.declared.calls.Call.{Call}
use Rattle.agreement.specs.Book.{Book, opened}
use Rattle.agreement.specs.Calls.{after, answer}
use Rattle.agreement.specs.Runs.{run}
use Rattle.month_format.specs.declared.place.Place.{Place}
use Rattle.month_format.specs.Entries.{Entry, set_up, call, frame, file_of}
use Rattle.month_format.specs.Files.{most_bytes}
use Rattle.month_meaning.specs.declared.fault.Fault.{Fault}
use Rattle.month_meaning.specs.Months.{Month, with_book, opening, set_up_refusal}

-- the book accepts each call in its turn
abbrev pub Accepts : Book → List Call → Type 0
Accepts book [] = Unit {0}
Accepts book (made ∷ calls) = (answer made book ≡ Ok tt) × Accepts (after made book) calls

-- entries that make a month: a set-up that nothing refuses, and then calls that the book accepts
pub record Makes (entries : List Entry) (month : Month) : Type 0 where
  pub days : ℕ
  pub bands : ℕ
  pub average : ℕ
  pub lowest : ℕ
  pub calls : List Call
  pub entered : entries ≡ set_up days bands average lowest ∷ map call calls
  pub free : set_up_refusal days bands average lowest ≡ None
  pub accepts : Accepts (opened days) calls
  pub book : month ≡ with_book (run calls (opened days)) (opening days bands average lowest)

-- a file that is accepted: the version and the records of entries that make a month
pub record Accepted (file : List ℕ) (month : Month) : Type 0 where
  pub entries : List Entry
  pub layout : file ≡ file_of entries
  pub size : length file ≤ most_bytes
  pub makes : Makes entries month

-- the caller's month holds what these entries make, or with none is as it was
abbrev pub Held : List Entry → Option Month → Option Month → Type 0
Held [] before later = later ≡ before
Held (entry ∷ entries) before later = (month : Month) × ((later ≡ Some month) × Makes (entry ∷ entries) month)

-- a fault at a record: the records before it are the file up to its byte, they are held, and none that begins at its
-- byte could follow them
pub record Stopped (file : List ℕ) (before later : Option Month) (fault : Fault) : Type 0 where
  pub place : Place
  pub reached : fault.place ≡ Some place
  pub entries : List Entry
  pub front : take place.byte file ≡ file_of entries
  pub count : place.nth ≡ suc (length entries)
  pub held : Held entries before later
  pub barred : (entry : Entry) (rest : List ℕ) (month : Month) → drop place.byte file ≡ frame entry ++ rest → Makes (entries ++ entry ∷ []) month → ⊥

-- a fault before the first record
pub record Nowhere (fault : Fault) (before later : Option Month) : Type 0 where
  pub unreached : fault.place ≡ None
  pub held : later ≡ before

-- what a file does to the caller's month, and what is answered: accepted exactly when it is a month's file
pub record Reads (file : List ℕ) (before later : Option Month) (answer : Result (Unit {0}) Fault) : Type 0 where
  pub accepts : (month : Month) → Accepted file month → (answer ≡ Ok tt) × (later ≡ Some month)
  pub accepted : answer ≡ Ok tt → (month : Month) × ((later ≡ Some month) × Accepted file month)
  pub stopped : (fault : Fault) → answer ≡ Err fault → Nowhere fault before later ⊎ Stopped file before later fault
