use Rattle.std.proofs.Common.{Ok, sym, ◌∙◌, subst}
use Rattle.std.proofs.lemmas.Result.{err_from_is_err_and}
use Rattle.std.specs.Option.{option_copied}
use Rattle.mvd_dots.specs.Answer.{IsAnswer}
use Rattle.mvd_kept.specs.Walk.{first_of}
use Rattle.mvd_kept.proofs.Walked.{never_refused}
use Rattle.mvd_kept.proofs.held.first_key.Goals as goal

pub returns-in_err-read : goal.returns-in_err-read
returns-in_err-read c =
    let prefix = c.args.prefix.now in
    let after = option_copied c.args.after in
    let p = err_from_is_err_and c.from_residual.result c.from_residual.ensures.1 in
    subst (λ r. IsAnswer r (Ok (first_of prefix after))) (sym p.1)
    (λ other. never_refused prefix after c.text.result.now c.in_err-read.field-0.0 c.text.ensures.same c.text.ensures.prefix (sym c.is_at_prefix.ensures ∙ c.if-not-is_at_prefix.false) (c.in_err-read.ensures (λ e. other (p.2 ∙ e))))
