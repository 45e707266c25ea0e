use Rattle.std.proofs.Common.{take, rules}
use Rattle.std.proofs.lemmas.List.Sorted.{answers_always}
use Rattle.billing.specs.Keepings.{kept}
use Rattle.billing.proofs.Search.{among_all, rising_take, searched}
use Rattle.billing.proofs.keeping.Keeping.search.Goals as goal

-- the closure gives a record's number, and the records searched are the first of those kept
pub returns : goal.returns
returns g c =
    let f = g.R.Numbered.numbered in
    let front = take c.front.result c.records.result.now in
    let facts = c.binary_search_by_key.ensures in
    let by_number = facts.position f (answers_always _ _ _ (λ f a r h called. search rules)) in
    let among = searched f c.args.number front (rising_take f c.front.result _ c.records.ensures.rises) _ facts.bound by_number in
    among_all f c.args.number c.front.result (kept c.args.self.now) c.front.ensures.within c.front.ensures.reaches _ (rw (← c.records.ensures.all) among)
