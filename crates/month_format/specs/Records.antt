-- What bytes say: the entry of a record, and the first record of some bytes. Assumes nothing.
use Rattle.std.specs.Prelude.{ℕ, ◌+◌, ◌-◌, ◌*◌, cond, List, length, take, drop, Ok, Err, Result, ◌==◌, nat_lt, slice_index}
use Rattle.agreement.specs.declared.calls.Call.{Call}
use Rattle.agreement.specs.declared.calls.Posting.{Posting}
use Rattle.agreement.specs.declared.calls.Call.TheVariants.{Enrol, Nominate, Read, Receive, Notify, Close}
use Rattle.month_format.specs.declared.errors.BytesError.{BytesError}
use Rattle.month_format.specs.declared.errors.BytesError.TheVariants.{CutShort}
use Rattle.month_format.specs.declared.errors.RecordError.{RecordError}
use Rattle.month_format.specs.declared.errors.RecordError.TheVariants.{Bytes, UnknownLetter, WrongLength}
use Rattle.month_format.specs.Fields.{quad_at}
use Rattle.month_format.specs.Letters.{set_up_letter, enrol_letter, nominate_letter, read_letter, receive_letter, notify_letter, close_letter}
use Rattle.month_format.specs.Entries.{Entry, set_up, call}

-- a value read from fields, where they have the length of its letter
abbrev pub sized : {X : Type 0} → List ℕ → ℕ → X → Result X RecordError
sized fields size value = cond (length fields == size) (Ok value) (Err WrongLength)

-- days, bands, average price and lowest price
abbrev pub set_up_of : List ℕ → Result Entry RecordError
set_up_of fields = sized fields 10 (set_up (slice_index fields 0) (slice_index fields 1) (quad_at fields 2) (quad_at fields 6))

-- account and retention
abbrev pub enrol_of : List ℕ → Result Entry RecordError
enrol_of fields = sized fields 5 (call (Enrol (quad_at fields 0) (slice_index fields 4)))

-- account, day and therms
abbrev pub posting_of : List ℕ → Result Posting RecordError
posting_of fields = sized fields 9 (record { account = quad_at fields 0; day = slice_index fields 4; therms = quad_at fields 5 })

-- a day
abbrev pub notify_of : List ℕ → Result Entry RecordError
notify_of fields = sized fields 1 (call (Notify (slice_index fields 0)))

-- nothing
abbrev pub close_of : List ℕ → Result Entry RecordError
close_of fields = sized fields 0 (call Close)

-- the call that is made of a posting
abbrev pub posted : Result Posting RecordError → (Posting → Call) → Result Entry RecordError
posted (Ok posting) made = Ok (call (made posting))
posted (Err e) made = Err e

-- the letter decides how the fields divide
abbrev pub lettered : ℕ → List ℕ → Result Entry RecordError
lettered letter fields =
    cond (letter == set_up_letter) (set_up_of fields)
    (cond (letter == enrol_letter) (enrol_of fields)
    (cond (letter == nominate_letter) (posted (posting_of fields) Nominate)
    (cond (letter == read_letter) (posted (posting_of fields) Read)
    (cond (letter == receive_letter) (posted (posting_of fields) Receive)
    (cond (letter == notify_letter) (notify_of fields)
    (cond (letter == close_letter) (close_of fields)
    (Err UnknownLetter)))))))

-- the entry that a record's bytes say
abbrev pub record_of : List ℕ → Result Entry RecordError
record_of bytes = cond (length bytes == 0) (Err UnknownLetter) (lettered (slice_index bytes 0) (take (length bytes - 1) (drop 1 bytes)))

-- the length of the first record
abbrev pub size_of : List ℕ → ℕ
size_of bytes = slice_index bytes 0 * 256 + slice_index bytes 1

-- the bytes of the first record, without its length, and what comes after it
abbrev pub cut_of : List ℕ → Result (List ℕ × List ℕ) BytesError
cut_of bytes =
    cond (nat_lt (length bytes) 2) (Err CutShort)
    (cond (nat_lt (length bytes) (2 + size_of bytes)) (Err CutShort)
    (Ok (take (size_of bytes) (drop 2 bytes), drop (2 + size_of bytes) bytes)))

-- an entry, and what comes after it
abbrev pub beside : Result Entry RecordError → List ℕ → Result (Entry × List ℕ) RecordError
beside (Ok entry) rest = Ok (entry, rest)
beside (Err e) rest = Err e

abbrev pub taken : Result (List ℕ × List ℕ) BytesError → Result (Entry × List ℕ) RecordError
taken (Ok p) = beside (record_of p.0) p.1
taken (Err e) = Err (Bytes e)

-- the entry of the first record, and what comes after it
abbrev pub record_at : List ℕ → Result (Entry × List ℕ) RecordError
record_at bytes = taken (cut_of bytes)
