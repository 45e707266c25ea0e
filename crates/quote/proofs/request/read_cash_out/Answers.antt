use Rattle.std.proofs.Common.{[], ◌∷◌, codes, refl, w32}
use Rattle.wording.proofs.Forms.{passed, no_number, no_signed, not_ended}
use Rattle.wording.proofs.Spelled.{passed_on}
use Rattle.quote.proofs.Spelled.{refused}
use Rattle.quote.proofs.request.read_cash_out.Goals as goal

pub returns-in_err-bands : goal.returns-in_err-bands
returns-in_err-bands c =
    refused _ (codes "cash-out") c.from_residual.result c.from_residual.ensures.1 (no_number 8 _ _ _ c.in_err-bands.ensures)

pub returns-in_err-average : goal.returns-in_err-average
returns-in_err-average c =
    let b = c.in_ok-bands.ensures in
    refused _ (codes "cash-out") c.from_residual-in_err-average.result c.from_residual-in_err-average.ensures.1 (passed b.1 (no_number 32 _ _ _ c.in_err-average.ensures))

pub returns-in_err-lowest : goal.returns-in_err-lowest
returns-in_err-lowest c =
    let b = c.in_ok-bands.ensures in
    let a = c.in_ok-average.ensures in
    refused _ (codes "cash-out") c.from_residual-in_err-lowest.result c.from_residual-in_err-lowest.ensures.1 (passed b.1 (passed a.1 (no_number 32 _ _ _ c.in_err-lowest.ensures)))

pub returns-in_err-delivered : goal.returns-in_err-delivered
returns-in_err-delivered c =
    let b = c.in_ok-bands.ensures in
    let a = c.in_ok-average.ensures in
    let l = c.in_ok-lowest.ensures in
    refused _ (codes "cash-out") c.from_residual-in_err-delivered.result c.from_residual-in_err-delivered.ensures.1 (passed b.1 (passed a.1 (passed l.1 (no_number 32 _ _ _ c.in_err-delivered.ensures))))

pub returns-in_err-received : goal.returns-in_err-received
returns-in_err-received c =
    let b = c.in_ok-bands.ensures in
    let a = c.in_ok-average.ensures in
    let l = c.in_ok-lowest.ensures in
    let d = c.in_ok-delivered.ensures in
    refused _ (codes "cash-out") c.from_residual-in_err-received.result c.from_residual-in_err-received.ensures.1 (passed b.1 (passed a.1 (passed l.1 (passed d.1 (no_signed w32 _ _ _ c.in_err-received.ensures)))))

pub returns-in_err-end : goal.returns-in_err-end
returns-in_err-end c =
    let b = c.in_ok-bands.ensures in
    let a = c.in_ok-average.ensures in
    let l = c.in_ok-lowest.ensures in
    let d = c.in_ok-delivered.ensures in
    let r = c.in_ok-received.ensures in
    refused _ (codes "cash-out") c.from_residual-in_err-end.result c.from_residual-in_err-end.ensures.1 (passed b.1 (passed a.1 (passed l.1 (passed d.1 (passed r.1 (not_ended _ c.in_err-end.ensures))))))

pub returns : goal.returns
returns c =
    let b = c.in_ok-bands.ensures in
    let a = c.in_ok-average.ensures in
    let l = c.in_ok-lowest.ensures in
    let d = c.in_ok-delivered.ensures in
    let r = c.in_ok-received.ensures in
    let e = c.in_ok-end.ensures in
    (b.0 ∷ a.0 ∷ l.0 ∷ d.0 ∷ r.0 ∷ [], (_, b.1, (_, a.1, (_, l.1, (_, d.1, (_, r.1, e))))), (b.0, a.0, l.0, d.0, r.0, refl, b.2.0, a.2.0, l.2.0, d.2.0, passed_on w32 r.0 c.in_ok-received.received r.2.0))
