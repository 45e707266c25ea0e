use Rattle.std.proofs.Common.{rules}
use Rattle.wording.proofs.Spelled.{read_by}
use Rattle.statement.specs.Requests.{Spells}
use Rattle.statement.proofs.Spelled.{Unknown, no_request, no_words}
use Rattle.statement.proofs.request.read_request.Goals as goal

pub returns-in-Some-sheet : goal.returns-in-Some-sheet
returns-in-Some-sheet c =
    read_by Spells c.new-reader.ensures c.in-Some-sheet.ensures c.in-Some-sheet.is-sheet c.read_sheet.result c.read_sheet.ensures

pub returns-in-Some-member : goal.returns-in-Some-member
returns-in-Some-member c =
    read_by Spells c.new-reader.ensures c.in-Some-member.ensures c.in-Some-member.is-member c.read_member.result c.read_member.ensures

pub returns-in-Some-bill : goal.returns-in-Some-bill
returns-in-Some-bill c =
    read_by Spells c.new-reader.ensures c.in-Some-bill.ensures c.in-Some-bill.is-bill c.read_bill.result c.read_bill.ensures

pub returns-in-Some-pay : goal.returns-in-Some-pay
returns-in-Some-pay c =
    read_by Spells c.new-reader.ensures c.in-Some-pay.ensures c.in-Some-pay.is-pay c.read_payment.result c.read_payment.ensures

pub returns-in-Some-late : goal.returns-in-Some-late
returns-in-Some-late c =
    read_by Spells c.new-reader.ensures c.in-Some-late.ensures c.in-Some-late.is-late c.read_late.result c.read_late.ensures

pub returns-in-Some : goal.returns-in-Some
returns-in-Some c =
    let u : Unknown c.in-Some.word.now = record { no_sheet = search rules; no_member = search rules; no_bill_lem = search rules; no_pay = search rules; no_late = search rules } in
    no_request c.new-reader.ensures c.in-Some.ensures u

pub returns-in-None : goal.returns-in-None
returns-in-None c = no_words c.new-reader.ensures c.in-None.ensures
