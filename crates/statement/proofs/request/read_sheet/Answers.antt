use Rattle.std.proofs.Common.{◌∷◌, codes, refl}
use Rattle.wording.proofs.Forms.{passed, no_number}
use Rattle.statement.proofs.Spelled.{refused, blocks_refuted}
use Rattle.statement.proofs.request.read_sheet.Goals as goal

pub returns-in_err-number : goal.returns-in_err-number
returns-in_err-number c =
    refused _ (codes "sheet") c.from_residual.result c.from_residual.ensures.1 (no_number 32 _ _ _ c.in_err-number.ensures)

pub returns-in_err-monthly_cents : goal.returns-in_err-monthly_cents
returns-in_err-monthly_cents c =
    let n = c.in_ok-number.ensures in
    refused _ (codes "sheet") c.from_residual-in_err-monthly_cents.result c.from_residual-in_err-monthly_cents.ensures.1 (passed n.1 (no_number 32 _ _ _ c.in_err-monthly_cents.ensures))

pub returns-in_err-blocks : goal.returns-in_err-blocks
returns-in_err-blocks c =
    let n = c.in_ok-number.ensures in
    let m = c.in_ok-monthly_cents.ensures in
    refused _ (codes "sheet") c.from_residual-in_err-blocks.result c.from_residual-in_err-blocks.ensures.1 (passed n.1 (passed m.1 (blocks_refuted _ c.in_err-blocks.ensures)))

pub returns : goal.returns
returns c =
    let n = c.in_ok-number.ensures in
    let m = c.in_ok-monthly_cents.ensures in
    let b = c.in_ok-blocks.ensures in
    (n.0 ∷ m.0 ∷ b.0, (_, n.1, (_, m.1, b.1)), (n.0, m.0, b.0, refl, n.2.0, m.2.0, b.2))
