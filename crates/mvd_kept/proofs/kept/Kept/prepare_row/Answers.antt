use Rattle.std.proofs.Common.{◌≡◌, ◌≢◌, false, Err, IfErr, refl, ap, sym, ◌∙◌, subst}
use Rattle.std.proofs.lemmas.Result.{err_from_is_err_and}
use Rattle.mvd_dots.specs.declared.refusals.Refusal.TheVariants.{Broken, Memory}
use Rattle.mvd_rows.specs.Counted.{Within}
use Rattle.mvd_rows.specs.Visible.{visible_in}
use Rattle.mvd_wire.proofs.SentPages.{row_can_be_sent}
use Rattle.mvd_kept.specs.Costs.{prepared_looks}
use Rattle.mvd_kept.specs.Sites.{SiteValue}
use Rattle.mvd_kept.proofs.Listed.{row_refuses}
use Rattle.mvd_kept.proofs.Spent.{refused_unlooked}
use Rattle.mvd_kept.proofs.kept.Kept.prepare_row.Goals as goal

pub returns-in_err-count-clause-whole : goal.returns-in_err-count-clause-whole
returns-in_err-count-clause-whole c =
    let defs = c.self.inside.config.defs in
    let states = c.self.inside.states in
    let unbroken : c.self.inside.broken ≡ false = ap (λ (s : SiteValue). s.broken) c.self.view_is ∙ c.requires in
    let p = err_from_is_err_and c.from_residual.result c.from_residual.ensures.1 in
    subst (λ r. IfErr r (λ refusal. refusal ≢ Broken)) (sym p.1)
    (λ broken. row_refuses defs (visible_in states) c.args.view.now c.args.term.now Broken (λ e. cc)
    (sym (c.row.ensures.row defs states (c.self.invariant.listed unbroken)) ∙ c.in_err-count.was ∙ ap Err (sym p.2 ∙ broken)))

pub returns-in_err-count-clause-frugal : goal.returns-in_err-count-clause-frugal
returns-in_err-count-clause-frugal c =
    let defs = c.self.inside.config.defs in
    let states = c.self.inside.states in
    let unbroken : c.self.inside.broken ≡ false = ap (λ (s : SiteValue). s.broken) c.self.view_is ∙ c.requires in
    let p = err_from_is_err_and c.from_residual.result c.from_residual.ensures.1 in
    subst (λ r. IfErr r (λ refusal. refusal ≢ Memory)) (sym p.1)
    (λ memory. row_refuses defs (visible_in states) c.args.view.now c.args.term.now Memory (λ e. cc)
    (sym (c.row.ensures.row defs states (c.self.invariant.listed unbroken)) ∙ c.in_err-count.was ∙ ap Err (sym p.2 ∙ memory)))

pub returns-clause-ready : goal.returns-clause-ready
returns-clause-ready c = record { accepts = refl; fits = row_can_be_sent _ }

pub returns-in_err-count-clause-looks : goal.returns-in_err-count-clause-looks
returns-in_err-count-clause-looks c =
    let p = err_from_is_err_and c.from_residual.result c.from_residual.ensures.1 in
    subst (λ r. Within 0 (prepared_looks r) c.args.meter.now c.row.new.meter) (sym p.1) (refused_unlooked p.0 c.args.meter.now c.row.new.meter c.in_err-count.ensures.none)
