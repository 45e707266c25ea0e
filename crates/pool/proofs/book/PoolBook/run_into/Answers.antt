use Rattle.std.proofs.Common.{◌<◌, length, sym, ◌∙◌, arith}
use Rattle.agreement.specs.declared.calls.Call.TheVariants.{Enrol}
use Rattle.agreement.proofs.Running.{run_more, answers_more, run_all, answers_all}
use Rattle.pool.proofs.book.PoolBook.run_into.Goals as goal

pub loop-i-preserved : goal.loop-i-preserved
loop-i-preserved g c =
    let calls = c.args.calls.now in
    let i = c.loop-i.i in
    let inv = c.loop-i.invariant in
    let said = c.apply.ensures in
    let before = c.loop-i.self.table in
    let book = c.apply.new.self.table in
    let lt : c.loop-i.i < length c.args.calls.now = omega arith in (
      run_more calls i (Enrol 0 0) before book lt said.book ∙ inv.0,
      answers_more calls i (Enrol 0 0) before book lt said.book c.apply.result c.loop-i.answers (omega arith) said.answers ∙ inv.1,
      said.schedules ∙ inv.2,
    )

pub returns : goal.returns
returns g c =
    let calls = c.args.calls.now in
    let i = c.loop-i.i in
    let inv = c.loop-i.invariant in
    let book = c.loop-i.self.table in
    record {
      book = sym (run_all calls i book (omega arith)) ∙ inv.0;
      answers = sym (answers_all calls i book (omega arith) c.loop-i.answers (omega arith)) ∙ inv.1;
      schedules = inv.2;
    }
