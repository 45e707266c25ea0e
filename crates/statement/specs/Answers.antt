-- What a request does: the answer to it, and the rate sheets and accounts that are kept after it. Assumes nothing.
use Rattle.std.specs.Prelude.{ℕ, List, pos, Ok, Err, Result}
use Rattle.billing.specs.declared.account.Account.{Account}
use Rattle.billing.specs.declared.refusals.Refusal.{Refusal}
use Rattle.billing.specs.declared.sheet.RateSheet.{RateSheet}
use Rattle.rules.specs.Checks.{unless}
use Rattle.billing.specs.Keepings.{add_refusal, after_adding}
use Rattle.billing.specs.Sheets.{add_sheet_refusal, after_adding_sheet}
use Rattle.billing.specs.Bills.{billed}
use Rattle.billing.specs.Accounts.{account, account_number, balance_of, answer, after}
use Rattle.statement.specs.declared.done.Done.{Done}
use Rattle.statement.specs.declared.done.Done.TheVariants.{Added, Billed, Entered}
use Rattle.statement.specs.declared.request.Request.{Request}
use Rattle.statement.specs.declared.request.Request.TheVariants.{Sheet, Member, Bill, Enter}
use Rattle.statement.specs.Statements.{posted, after_bill}

-- the sheets after a request: only a sheet line adds one; there are so many places
abbrev pub sheets_after : Request → ℕ → List RateSheet → List RateSheet
sheets_after (Sheet number cents blocks) places sheets = after_adding_sheet places number cents blocks sheets
sheets_after (Member number) places sheets = sheets
sheets_after (Bill member sheet usage) places sheets = sheets
sheets_after (Enter call) places sheets = sheets

-- the accounts after a request: a new member owes nothing, a bill's total is posted, an entry is made
abbrev pub accounts_after : Request → List RateSheet → ℕ → List Account → List Account
accounts_after (Sheet number cents blocks) sheets places accounts = accounts
accounts_after (Member number) sheets places accounts = after_adding account_number places (account number (pos 0)) accounts
accounts_after (Bill member sheet usage) sheets places accounts = after_bill (billed sheet usage sheets) member accounts
accounts_after (Enter call) sheets places accounts = after call.account call.entry accounts

-- what there is to print of a value; a refusal stays one
abbrev pub printing : {X : Type 0} → (X → Done) → Result X Refusal → Result Done Refusal
printing print (Ok value) = Ok (print value)
printing print (Err refusal) = Err refusal

-- the answer to a request: of a bill and an entry, what it comes to and the member's balance after it
abbrev pub answer_to : Request → ℕ → List RateSheet → ℕ → List Account → Result Done Refusal
answer_to (Sheet number cents blocks) sheet_places sheets places accounts =
    unless (add_sheet_refusal sheet_places number cents blocks sheets) Added
answer_to (Member number) sheet_places sheets places accounts =
    unless (add_refusal account_number places (account number (pos 0)) accounts) Added
answer_to (Bill member sheet usage) sheet_places sheets places accounts =
    printing (λ bill. Billed bill (balance_of member (after_bill (billed sheet usage sheets) member accounts))) (posted (billed sheet usage sheets) member accounts)
answer_to (Enter call) sheet_places sheets places accounts =
    printing (λ added. Entered call.entry added (balance_of call.account (after call.account call.entry accounts))) (answer call.account call.entry accounts)
