use Rattle.std.proofs.Common.{[], ◌∷◌, codes, refl}
use Rattle.wording.proofs.Forms.{passed, no_number, not_ended}
use Rattle.statement.proofs.Spelled.{refused}
use Rattle.statement.proofs.request.read_late.Goals as goal

pub returns-in_err-account : goal.returns-in_err-account
returns-in_err-account c =
    refused _ (codes "late") c.from_residual.result c.from_residual.ensures.1 (no_number 32 _ _ _ c.in_err-account.ensures)

pub returns-in_err-end : goal.returns-in_err-end
returns-in_err-end c =
    let m = c.in_ok-account.ensures in
    refused _ (codes "late") c.from_residual-in_err-end.result c.from_residual-in_err-end.ensures.1 (passed m.1 (not_ended _ c.in_err-end.ensures))

pub returns : goal.returns
returns c =
    let m = c.in_ok-account.ensures in
    let e = c.in_ok-end.ensures in
    (m.0 ∷ [], (_, m.1, e), (m.0, refl, m.2.0))
