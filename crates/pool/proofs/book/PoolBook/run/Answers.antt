use Rattle.std.proofs.Common.{◌≡◌, length, drop, arith}
use Rattle.std.proofs.lemmas.List.{take_at}
use Rattle.pool.specs.Fixing.{terms_of}
use Rattle.pool.proofs.Settling.{settled_same}
use Rattle.pool.proofs.book.PoolBook.run.Goals as goal

pub returns : goal.returns
returns g c =
    let said = c.run_into.ensures in
    let all : length c.run_into.new.answers ≡ c.in_ok-answers.answers.len = omega (arith, c.run_into.auto.answers, c.deref_mut.ensures.len) in
    let rest = drop (length c.run_into.new.answers) c.in_ok-answers.answers.items in
    record {
      book = said.book;
      answers = rw (take_at c.run_into.new.answers rest c.in_ok-answers.answers.len all) said.answers;
      settlement = settled_same (terms_of g.M.Schedule.lines g.D.Schedule.lines g.O.Schedule.lines) _ _ _ _ c.settle-settlement.result said.schedules said.book c.settle-settlement.ensures;
      schedules = said.schedules;
    }
