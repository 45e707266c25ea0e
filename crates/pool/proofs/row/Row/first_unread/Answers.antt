use Rattle.std.proofs.Common.{sym, ap, ◌∙◌}
use Rattle.agreement.specs.Missing.{first_unread}
use Rattle.pool.proofs.Missing.{from_one, unread_is}
use Rattle.pool.proofs.row.Row.first_unread.Goals as goal

pub returns-in_err-unread : goal.returns-in_err-unread
returns-in_err-unread c =
    c.from_residual.ensures ∙ ap from_one c.in_err-unread.ensures ∙ sym (unread_is c.self.inside.days.now) ∙ ap first_unread c.self.view_is

pub returns : goal.returns
returns c = ap from_one c.in_ok-unread.ensures ∙ sym (unread_is c.self.inside.days.now) ∙ ap first_unread c.self.view_is
