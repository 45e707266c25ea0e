use Rattle.std.proofs.Common.{◌≡◌, Some, ap, sym, ◌∙◌, rules}
use Rattle.month_format.specs.Views.{said_by, seen, call_of}
use Rattle.month_meaning.specs.Layers.{month_or, posted_read}
use Rattle.month_meaning.proofs.Answered.{after_refused, month_refused}
use Rattle.month_file.specs.Views.{month_of}
use Rattle.month_file.proofs.posting.post.Goals as goal

pub returns-in_err-apply-clause-book : goal.returns-in_err-apply-clause-book
returns-in_err-apply-clause-book c =
    let book = c.args.book.now in
    let said = c.in_err-apply.ensures in
    let call = c.in_ok-call.call in
    let entry = said_by c.in_ok-from.field-0 in
    let is : call_of entry ≡ Some call = search rules in
    let refusal = c.in_err-apply.field-0.0 in
    let table = said.book ∙ after_refused call book.table refusal said.answers in
    let ladder = ap (λ s. s.month) said.schedules in
    let same : month_of c.apply.new.self ≡ month_of book = λ i. record { bands = (ladder i).bands; average = (ladder i).average; lowest = (ladder i).lowest; book = table i } in
    same ∙ month_refused (month_of book) entry call is refusal said.answers ∙ ap (λ r. month_or (month_of book) (posted_read (Some (month_of book)) (seen said_by r))) (sym c.in_ok-from.was)
