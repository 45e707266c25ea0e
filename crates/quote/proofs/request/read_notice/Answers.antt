use Rattle.std.proofs.Common.{◌≡◌, codes, rules}
use Rattle.wording.proofs.Forms.{passed_maybe, unfit_maybe, not_ended}
use Rattle.quote.proofs.Spelled.{no_notice, notice_refused}
use Rattle.quote.proofs.request.read_notice.Goals as goal

pub returns-in_err-end-in-Some-notice : goal.returns-in_err-end-in-Some-notice
returns-in_err-end-in-Some-notice c =
    notice_refused _ c.from_residual.result c.from_residual.ensures.1 (passed_maybe c.in-Some-notice.ensures (not_ended _ c.in_err-end-in-Some-notice.ensures))

pub returns-in-Some : goal.returns-in-Some
returns-in-Some c =
    let n : c.in-Some.word.now ≡ codes "notice" → ⊥ = search rules in
    no_notice _ (unfit_maybe c.in-Some.ensures n)
