use Rattle.std.proofs.Common.{◌≡◌, sym, ap, ◌∙◌, rules}
use Rattle.month_format.specs.Views.{seen}
use Rattle.month_meaning.specs.Layers.{placed}
use Rattle.month_file.specs.Left.{read_after}
use Rattle.month_file.specs.Views.{month_of}
use Rattle.month_file.proofs.Turns.{set_up_turn}
use Rattle.month_file.proofs.file.read_set_up.Goals as goal

pub returns : goal.returns
returns c =
    let x = c.unwrap_or.result in
    let new = c.next.new.self in
    let is : seen month_of c.map_err.result ≡ placed (seen month_of c.open.result) x.0 = search rules in
    set_up_turn c.args.records.now new c.next.result c.next.ensures.steps x (search rules) ∙ ap (λ r. read_after (placed r x.0) new) (sym c.open.ensures) ∙ ap (λ r. read_after r new) (sym is)
