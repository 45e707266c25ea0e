use Rattle.std.proofs.Common.{rules, tests}
use Rattle.std.proofs.lemmas.Iterator.{YieldsList-from_slice}
use Rattle.std.proofs.lemmas.Iterator.Search.{all_from_yields_List}
use Rattle.schedule.specs.Lines.{within_limits}
use Rattle.tariff.proofs.line_list.all_within_limits.Goals as goal

pub returns : goal.returns
returns c =
    all_from_yields_List within_limits _ _ _ c.all.ensures.ran (YieldsList-from_slice c.args.lines.now cc) (λ x b q k. search (rules, tests))
