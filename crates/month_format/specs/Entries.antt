-- What a month file is made of: entries, and the bytes that each is written as. Assumes nothing.
use Rattle.std.specs.Prelude.{ℕ, ◌/◌, ◌%◌, List, [], ◌∷◌, ◌++◌, length}
use Rattle.std.specs.List.{flat_map}
use Rattle.agreement.specs.declared.calls.Call.{Call}
use Rattle.agreement.specs.declared.calls.Posting.{Posting}
use Rattle.agreement.specs.declared.calls.Call.TheVariants.{Enrol, Nominate, Read, Receive, Notify, Close}
use Rattle.month_format.specs.Fields.{quad}
use Rattle.month_format.specs.Letters.{set_up_letter, enrol_letter, nominate_letter, read_letter, receive_letter, notify_letter, close_letter}

-- an entry: the set-up of the month, or a call of the book
pub data Entry : Type 0 where
  set_up : (days bands average lowest : ℕ) → Entry
  call : Call → Entry

-- the ASCII letter of each entry
abbrev pub letter_of : Entry → ℕ
letter_of (set_up days bands average lowest) = set_up_letter
letter_of (call (Enrol account retention)) = enrol_letter
letter_of (call (Nominate posting)) = nominate_letter
letter_of (call (Read posting)) = read_letter
letter_of (call (Receive posting)) = receive_letter
letter_of (call (Notify day)) = notify_letter
letter_of (call Close) = close_letter

-- the fields of a posting: account, day and therms
abbrev pub posting_fields : Posting → List ℕ
posting_fields posting = quad posting.account ++ (posting.day ∷ quad posting.therms)

-- the fields of each entry
abbrev pub fields_of : Entry → List ℕ
fields_of (set_up days bands average lowest) = days ∷ bands ∷ (quad average ++ quad lowest)
fields_of (call (Enrol account retention)) = quad account ++ (retention ∷ [])
fields_of (call (Nominate posting)) = posting_fields posting
fields_of (call (Read posting)) = posting_fields posting
fields_of (call (Receive posting)) = posting_fields posting
fields_of (call (Notify day)) = day ∷ []
fields_of (call Close) = []

-- a record: the letter, and the fields
abbrev pub encode : Entry → List ℕ
encode entry = letter_of entry ∷ fields_of entry

-- bytes after their length, in two bytes, the higher first
abbrev pub framed : List ℕ → List ℕ
framed bytes = length bytes / 256 ∷ length bytes % 256 ∷ bytes

-- a record after its length
abbrev pub frame : Entry → List ℕ
frame entry = framed (encode entry)

-- the file of some entries: the version, and then their records
abbrev pub file_of : List Entry → List ℕ
file_of entries = 1 ∷ flat_map frame entries
