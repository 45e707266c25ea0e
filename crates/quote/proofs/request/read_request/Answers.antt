use Rattle.std.proofs.Common.{◌≡◌, codes, rules}
use Rattle.wording.proofs.Spelled.{read_by}
use Rattle.quote.specs.Requests.{Spells}
use Rattle.quote.proofs.Spelled.{no_request, no_words}
use Rattle.quote.proofs.request.read_request.Goals as goal

pub returns-in-Some-text : goal.returns-in-Some-text
returns-in-Some-text c =
    read_by Spells c.new-reader.ensures c.in-Some-text.ensures c.in-Some-text.is-text c.read_cash_out.result c.read_cash_out.ensures

pub returns-in-Some-day : goal.returns-in-Some-day
returns-in-Some-day c =
    read_by Spells c.new-reader.ensures c.in-Some-day.ensures c.in-Some-day.is-day c.read_day.result c.read_day.ensures

pub returns-in-Some : goal.returns-in-Some
returns-in-Some c =
    let a : c.in-Some.word.now ≡ codes "cash-out" → ⊥ = search rules in
    let b : c.in-Some.word.now ≡ codes "day" → ⊥ = search rules in
    no_request c.new-reader.ensures c.in-Some.ensures a b

pub returns-in-None : goal.returns-in-None
returns-in-None c = no_words c.new-reader.ensures c.in-None.ensures
