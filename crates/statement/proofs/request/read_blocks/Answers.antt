use Rattle.std.proofs.Common.{[], ◌∷◌, refl, subst}
use Rattle.wording.proofs.Forms.{passed, passed_maybe, unfit_maybe, no_number, not_ended}
use Rattle.statement.specs.Requests.{NumberOrEnd}
use Rattle.statement.proofs.Spelled.{blocks_refused}
use Rattle.statement.proofs.request.read_blocks.Goals as goal

pub returns-in_err-one : goal.returns-in_err-one
returns-in_err-one c =
    blocks_refused _ c.from_residual.result c.from_residual.ensures.1 (no_number 32 _ _ _ c.in_err-one.ensures)

pub returns-in_err-first_rate : goal.returns-in_err-first_rate
returns-in_err-first_rate c =
    let a = c.in_ok-one.ensures in
    let h = c.in_err-first_rate.ensures in
    blocks_refused _ c.from_residual-in_err-first_rate.result c.from_residual-in_err-first_rate.ensures.1 (passed a.1 (unfit_maybe h.2 (λ m. h.3 m.0 m.1)))

pub returns-in_default : goal.returns-in_default
returns-in_default c =
    let a = c.in_ok-one.ensures in
    let e = subst (NumberOrEnd _ _) c.in_default.is c.in_ok-first_rate.ensures in
    (a.0 ∷ [], (_, a.1, e), (a.0, refl, a.2.0))

pub returns-in_err-two : goal.returns-in_err-two
returns-in_err-two c =
    let a = c.in_ok-one.ensures in
    let b = subst (NumberOrEnd _ _) c.in-Some.is c.in_ok-first_rate.ensures in
    blocks_refused _ c.from_residual-in_err-two.result c.from_residual-in_err-two.ensures.1 (passed a.1 (passed_maybe b.1 (no_number 32 _ _ _ c.in_err-two.ensures)))

pub returns-in_err-second_rate : goal.returns-in_err-second_rate
returns-in_err-second_rate c =
    let a = c.in_ok-one.ensures in
    let b = subst (NumberOrEnd _ _) c.in-Some.is c.in_ok-first_rate.ensures in
    let d = c.in_ok-two.ensures in
    let h = c.in_err-second_rate.ensures in
    blocks_refused _ c.from_residual-in_err-second_rate.result c.from_residual-in_err-second_rate.ensures.1 (passed a.1 (passed_maybe b.1 (passed d.1 (unfit_maybe h.2 (λ m. h.3 m.0 m.1)))))

pub returns-in_default-2 : goal.returns-in_default-2
returns-in_default-2 c =
    let a = c.in_ok-one.ensures in
    let b = subst (NumberOrEnd _ _) c.in-Some.is c.in_ok-first_rate.ensures in
    let d = c.in_ok-two.ensures in
    let e = subst (NumberOrEnd _ _) c.in_default-2.is c.in_ok-second_rate.ensures in
    (a.0 ∷ b.0 ∷ d.0 ∷ [], (_, a.1, (_, b.1, (_, d.1, e))), (a.0, b.0, d.0, refl, a.2.0, b.2, d.2.0))

pub returns-in_err-rate : goal.returns-in_err-rate
returns-in_err-rate c =
    let a = c.in_ok-one.ensures in
    let b = subst (NumberOrEnd _ _) c.in-Some.is c.in_ok-first_rate.ensures in
    let d = c.in_ok-two.ensures in
    let f = subst (NumberOrEnd _ _) c.in-Some-2.is c.in_ok-second_rate.ensures in
    blocks_refused _ c.from_residual-in_err-rate.result c.from_residual-in_err-rate.ensures.1 (passed a.1 (passed_maybe b.1 (passed d.1 (passed_maybe f.1 (no_number 32 _ _ _ c.in_err-rate.ensures)))))

pub returns-in_err-end : goal.returns-in_err-end
returns-in_err-end c =
    let a = c.in_ok-one.ensures in
    let b = subst (NumberOrEnd _ _) c.in-Some.is c.in_ok-first_rate.ensures in
    let d = c.in_ok-two.ensures in
    let f = subst (NumberOrEnd _ _) c.in-Some-2.is c.in_ok-second_rate.ensures in
    let r = c.in_ok-rate.ensures in
    blocks_refused _ c.from_residual-in_err-end.result c.from_residual-in_err-end.ensures.1 (passed a.1 (passed_maybe b.1 (passed d.1 (passed_maybe f.1 (passed r.1 (not_ended _ c.in_err-end.ensures))))))

pub returns : goal.returns
returns c =
    let a = c.in_ok-one.ensures in
    let b = subst (NumberOrEnd _ _) c.in-Some.is c.in_ok-first_rate.ensures in
    let d = c.in_ok-two.ensures in
    let f = subst (NumberOrEnd _ _) c.in-Some-2.is c.in_ok-second_rate.ensures in
    let r = c.in_ok-rate.ensures in
    let e = c.in_ok-end.ensures in
    (a.0 ∷ b.0 ∷ d.0 ∷ f.0 ∷ r.0 ∷ [], (_, a.1, (_, b.1, (_, d.1, (_, f.1, (_, r.1, e))))), (a.0, b.0, d.0, f.0, r.0, refl, a.2.0, b.2, d.2.0, f.2, r.2.0))
