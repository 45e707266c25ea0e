use Rattle.std.proofs.Common.{[], ◌∷◌, codes, refl, w64}
use Rattle.wording.proofs.Forms.{passed, no_number, no_signed, not_ended}
use Rattle.wording.proofs.Spelled.{passed_on}
use Rattle.statement.proofs.Spelled.{refused}
use Rattle.statement.proofs.request.read_bill.Goals as goal

pub returns-in_err-member : goal.returns-in_err-member
returns-in_err-member c =
    refused _ (codes "bill") c.from_residual.result c.from_residual.ensures.1 (no_number 32 _ _ _ c.in_err-member.ensures)

pub returns-in_err-sheet : goal.returns-in_err-sheet
returns-in_err-sheet c =
    let m = c.in_ok-member.ensures in
    refused _ (codes "bill") c.from_residual-in_err-sheet.result c.from_residual-in_err-sheet.ensures.1 (passed m.1 (no_number 32 _ _ _ c.in_err-sheet.ensures))

pub returns-in_err-days : goal.returns-in_err-days
returns-in_err-days c =
    let m = c.in_ok-member.ensures in
    let s = c.in_ok-sheet.ensures in
    refused _ (codes "bill") c.from_residual-in_err-days.result c.from_residual-in_err-days.ensures.1 (passed m.1 (passed s.1 (no_number 8 _ _ _ c.in_err-days.ensures)))

pub returns-in_err-served : goal.returns-in_err-served
returns-in_err-served c =
    let m = c.in_ok-member.ensures in
    let s = c.in_ok-sheet.ensures in
    let d = c.in_ok-days.ensures in
    refused _ (codes "bill") c.from_residual-in_err-served.result c.from_residual-in_err-served.ensures.1 (passed m.1 (passed s.1 (passed d.1 (no_number 8 _ _ _ c.in_err-served.ensures))))

pub returns-in_err-therms : goal.returns-in_err-therms
returns-in_err-therms c =
    let m = c.in_ok-member.ensures in
    let s = c.in_ok-sheet.ensures in
    let d = c.in_ok-days.ensures in
    let v = c.in_ok-served.ensures in
    refused _ (codes "bill") c.from_residual-in_err-therms.result c.from_residual-in_err-therms.ensures.1 (passed m.1 (passed s.1 (passed d.1 (passed v.1 (no_number 32 _ _ _ c.in_err-therms.ensures)))))

pub returns-in_err-pool_cents : goal.returns-in_err-pool_cents
returns-in_err-pool_cents c =
    let m = c.in_ok-member.ensures in
    let s = c.in_ok-sheet.ensures in
    let d = c.in_ok-days.ensures in
    let v = c.in_ok-served.ensures in
    let t = c.in_ok-therms.ensures in
    refused _ (codes "bill") c.from_residual-in_err-pool_cents.result c.from_residual-in_err-pool_cents.ensures.1 (passed m.1 (passed s.1 (passed d.1 (passed v.1 (passed t.1 (no_signed w64 _ _ _ c.in_err-pool_cents.ensures))))))

pub returns-in_err-end : goal.returns-in_err-end
returns-in_err-end c =
    let m = c.in_ok-member.ensures in
    let s = c.in_ok-sheet.ensures in
    let d = c.in_ok-days.ensures in
    let v = c.in_ok-served.ensures in
    let t = c.in_ok-therms.ensures in
    let x = c.in_ok-pool_cents.ensures in
    refused _ (codes "bill") c.from_residual-in_err-end.result c.from_residual-in_err-end.ensures.1 (passed m.1 (passed s.1 (passed d.1 (passed v.1 (passed t.1 (passed x.1 (not_ended _ c.in_err-end.ensures)))))))

pub returns : goal.returns
returns c =
    let m = c.in_ok-member.ensures in
    let s = c.in_ok-sheet.ensures in
    let d = c.in_ok-days.ensures in
    let v = c.in_ok-served.ensures in
    let t = c.in_ok-therms.ensures in
    let x = c.in_ok-pool_cents.ensures in
    let e = c.in_ok-end.ensures in
    (m.0 ∷ s.0 ∷ d.0 ∷ v.0 ∷ t.0 ∷ x.0 ∷ [], (_, m.1, (_, s.1, (_, d.1, (_, v.1, (_, t.1, (_, x.1, e)))))), (m.0, s.0, d.0, v.0, t.0, x.0, refl, m.2.0, s.2.0, d.2.0, v.2.0, t.2.0, passed_on w64 x.0 c.in_ok-pool_cents.pool_cents x.2.0))
