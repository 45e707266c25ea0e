use Rattle.std.proofs.Common.{[], ◌∷◌, codes, refl}
use Rattle.wording.proofs.Forms.{passed, no_number, not_ended}
use Rattle.statement.proofs.Spelled.{refused}
use Rattle.statement.proofs.request.read_member.Goals as goal

pub returns-in_err-number : goal.returns-in_err-number
returns-in_err-number c =
    refused _ (codes "member") c.from_residual.result c.from_residual.ensures.1 (no_number 32 _ _ _ c.in_err-number.ensures)

pub returns-in_err-end : goal.returns-in_err-end
returns-in_err-end c =
    let n = c.in_ok-number.ensures in
    refused _ (codes "member") c.from_residual-in_err-end.result c.from_residual-in_err-end.ensures.1 (passed n.1 (not_ended _ c.in_err-end.ensures))

pub returns : goal.returns
returns c =
    let n = c.in_ok-number.ensures in
    let e = c.in_ok-end.ensures in
    (n.0 ∷ [], (_, n.1, e), (n.0, refl, n.2.0))
