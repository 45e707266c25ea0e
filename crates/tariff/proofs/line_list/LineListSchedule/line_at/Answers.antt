use Rattle.tariff.proofs.Listed.{answer_refused}
use Rattle.tariff.proofs.line_list.LineListSchedule.line_at.Goals as goal

pub returns-in-Err : goal.returns-in-Err
returns-in-Err c = answer_refused _ _ c.args.self.now.given.now _ c.in-Err.ensures
