use Rattle.std.proofs.Common.{◌∷◌, codes, refl}
use Rattle.wording.proofs.Forms.{passed, no_number}
use Rattle.quote.proofs.Spelled.{refused, notice_refuted}
use Rattle.quote.proofs.request.read_day.Goals as goal

pub returns-in_err-nominated : goal.returns-in_err-nominated
returns-in_err-nominated c =
    refused _ (codes "day") c.from_residual.result c.from_residual.ensures.1 (no_number 32 _ _ _ c.in_err-nominated.ensures)

pub returns-in_err-used : goal.returns-in_err-used
returns-in_err-used c =
    let n = c.in_ok-nominated.ensures in
    refused _ (codes "day") c.from_residual-in_err-used.result c.from_residual-in_err-used.ensures.1 (passed n.1 (no_number 32 _ _ _ c.in_err-used.ensures))

pub returns-in_err-notice : goal.returns-in_err-notice
returns-in_err-notice c =
    let n = c.in_ok-nominated.ensures in
    let u = c.in_ok-used.ensures in
    refused _ (codes "day") c.from_residual-in_err-notice.result c.from_residual-in_err-notice.ensures.1 (passed n.1 (passed u.1 (notice_refuted _ c.in_err-notice.ensures)))

pub returns : goal.returns
returns c =
    let n = c.in_ok-nominated.ensures in
    let u = c.in_ok-used.ensures in
    let w = c.in_ok-notice.ensures in
    (n.0 ∷ u.0 ∷ w.0, (_, n.1, (_, u.1, w.1)), (n.0, u.0, w.0, refl, n.2.0, u.2.0, w.2))
