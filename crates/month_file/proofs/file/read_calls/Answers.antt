use Rattle.std.proofs.Common.{◌≡◌, Ok, Err, sym, ap, ◌∙◌, rules}
use Rattle.month_meaning.specs.Layers.{placed}
use Rattle.month_file.specs.Views.{month_of}
use Rattle.month_file.proofs.Turns.{turn_done, turn_refused}
use Rattle.month_file.proofs.file.read_calls.Goals as goal

pub loop-place-preserved : goal.loop-place-preserved
loop-place-preserved c =
    let posted : Ok tt ≡ c.post.result = search rules in
    rw c.post.ensures.book (sym (turn_done (month_of c.loop-place.book) c.loop-place.place-iterator c.next.new.self (c.in-Some.place, c.in-Some.record) c.in-Some.ensures.steps (posted ∙ c.post.ensures.answer)) ∙ c.loop-place.invariant)

pub returns-in_err-map_err : goal.returns-in_err-map_err
returns-in_err-map_err c =
    let fault = c.in_err-map_err.field-0.0 in
    let told : Err fault ≡ placed c.post.result c.in-Some.place = search rules in
    let w = sym (turn_refused (month_of c.loop-place.book) c.loop-place.place-iterator c.next.new.self (c.in-Some.place, c.in-Some.record) c.post.result fault c.in-Some.ensures.steps c.post.ensures.answer told) ∙ c.loop-place.invariant in
    let answer : c.from_residual.result ≡ Err fault = search rules in
    record { book = rw c.post.ensures.book (ap (λ y. y.0) w); answer = answer ∙ ap (λ y. y.1) w }
