-- What the code's borrowed parts of a file say. Assumes nothing.
use Rattle.std.specs.Prelude.{ℕ, List, Some, None, Ok, Err, Option, Result}
use Rattle.std.specs.Borrow.{Bor}
use Rattle.agreement.specs.declared.calls.Call.{Call}
use Rattle.agreement.specs.declared.calls.Call.TheVariants as the_call
use Rattle.agreement.specs.declared.calls.Posting as the_posting
use Rattle.month_format.specs.declared.record.Posting.{Posting}
use Rattle.month_format.specs.declared.record.Record.{Record}
use Rattle.month_format.specs.declared.record.Record.TheVariants.{SetUp, Enrol, Nominate, Read, Receive, Notify, Close}
use Rattle.month_format.specs.Fields.{quad_at}
use Rattle.month_format.specs.Entries.{Entry, set_up, call}

-- the number in a borrowed field
abbrev pub quad_of : Bor (List ℕ) → ℕ
quad_of field = quad_at field.now 0

-- the posting that its fields say
abbrev pub posting_said : Posting → the_posting.Posting
posting_said fields = record { account = quad_of fields.account; day = fields.day.now; therms = quad_of fields.therms }

-- the entry that a record says
abbrev pub said_by : Record → Entry
said_by (SetUp days bands average lowest) = set_up days.now bands.now (quad_of average) (quad_of lowest)
said_by (Enrol account retention) = call (the_call.Enrol (quad_of account) retention.now)
said_by (Nominate fields) = call (the_call.Nominate (posting_said fields))
said_by (Read fields) = call (the_call.Read (posting_said fields))
said_by (Receive fields) = call (the_call.Receive (posting_said fields))
said_by (Notify day) = call (the_call.Notify day.now)
said_by Close = call the_call.Close

-- the call of an entry
abbrev pub call_of : Entry → Option Call
call_of (set_up days bands average lowest) = None
call_of (call made) = Some made

-- what an answer says, where `view` tells what its value says; an error says itself
abbrev pub seen : {X Y E : Type 0} → (X → Y) → Result X E → Result Y E
seen view (Ok x) = Ok (view x)
seen view (Err e) = Err e

-- what a value says, beside the bytes that are left after it
abbrev pub with_rest : {X Y : Type 0} → (X → Y) → X × Bor (List ℕ) → Y × List ℕ
with_rest view p = (view p.0, p.1.now)

-- the bytes that are lent
abbrev pub lent : Bor (List ℕ) → List ℕ
lent bytes = bytes.now
