use Rattle.std.proofs.Common.{[], ◌∷◌, codes, refl, w64}
use Rattle.wording.proofs.Forms.{passed, no_number, no_signed, not_ended}
use Rattle.wording.proofs.Spelled.{passed_on}
use Rattle.statement.proofs.Spelled.{refused}
use Rattle.statement.proofs.request.read_payment.Goals as goal

pub returns-in_err-account : goal.returns-in_err-account
returns-in_err-account c =
    refused _ (codes "pay") c.from_residual.result c.from_residual.ensures.1 (no_number 32 _ _ _ c.in_err-account.ensures)

pub returns-in_err-amount : goal.returns-in_err-amount
returns-in_err-amount c =
    let m = c.in_ok-account.ensures in
    refused _ (codes "pay") c.from_residual-in_err-amount.result c.from_residual-in_err-amount.ensures.1 (passed m.1 (no_signed w64 _ _ _ c.in_err-amount.ensures))

pub returns-in_err-end : goal.returns-in_err-end
returns-in_err-end c =
    let m = c.in_ok-account.ensures in
    let a = c.in_ok-amount.ensures in
    refused _ (codes "pay") c.from_residual-in_err-end.result c.from_residual-in_err-end.ensures.1 (passed m.1 (passed a.1 (not_ended _ c.in_err-end.ensures)))

pub returns : goal.returns
returns c =
    let m = c.in_ok-account.ensures in
    let a = c.in_ok-amount.ensures in
    let e = c.in_ok-end.ensures in
    (m.0 ∷ a.0 ∷ [], (_, m.1, (_, a.1, e)), (m.0, a.0, refl, m.2.0, passed_on w64 a.0 c.in_ok-amount.amount a.2.0))
