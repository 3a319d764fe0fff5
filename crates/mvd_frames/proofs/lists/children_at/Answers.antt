use Rattle.std.proofs.Common.{ℕ, Ok, ap, ◌∙◌, refl}
use Rattle.std.proofs.lemmas.Result.{err_from_is_err_and}
use Rattle.mvd_wire.proofs.RowFits.{children_none, children_some}
use Rattle.mvd_frames.proofs.lists.children_at.Goals as goal

pub returns-in-0 : goal.returns-in-0
returns-in-0 c = children_none c.args.bytes.now c.in_ok-count.rest.now (c.in_ok-count.ensures ∙ ap (λ (n : ℕ). Ok (n, c.in_ok-count.rest.now)) c.in-0.is)

pub returns-in_err-digests-in-16 : goal.returns-in_err-digests-in-16
returns-in_err-digests-in-16 c =
    let p = err_from_is_err_and c.from_residual-in_err-digests-in-16.result c.from_residual-in_err-digests-in-16.ensures.1 in
    rw (p.1, p.2, children_some c.args.bytes.now c.in_ok-count.rest.now (c.in_ok-count.ensures ∙ ap (λ (n : ℕ). Ok (n, c.in_ok-count.rest.now)) c.in-16.is)) (λ other. rw (c.in_err-digests-in-16.ensures other) refl)
