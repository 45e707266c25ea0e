use Rattle.std.proofs.Common.{rules}
use Rattle.month_file.proofs.Fairly.{fair_made}
use Rattle.month_file.proofs.file.read_month.Goals as goal

pub returns-clause-fair : goal.returns-clause-fair
returns-clause-fair c = search (rules, fair_made)
