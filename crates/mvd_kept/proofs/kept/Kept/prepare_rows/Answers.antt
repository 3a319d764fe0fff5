use Rattle.std.proofs.Common.{◌+◌, length, ◌≡◌, ◌≢◌, false, Err, IfErr, refl, ap, sym, ◌∙◌, subst}
use Rattle.std.proofs.lemmas.Result.{err_from_is_err_and}
use Rattle.mvd_dots.specs.declared.refusals.Refusal.TheVariants.{Broken}
use Rattle.mvd_wire.specs.declared.reply.Reply.TheVariants.{Rows}
use Rattle.mvd_wire.proofs.SentPages.{rows_can_be_sent}
use Rattle.mvd_kept.proofs.Listed.{never_broken, rows_page, rows_refuses}
use Rattle.mvd_rows.specs.Counted.{Within}
use Rattle.mvd_rows.specs.Visible.{visible_in}
use Rattle.mvd_wire.specs.Replies.{CanBeSent}
use Rattle.mvd_kept.specs.Costs.{prepared_looks}
use Rattle.mvd_kept.specs.Sites.{SiteValue}
use Rattle.mvd_kept.proofs.Spent.{refused_looks, unlooked}
use Rattle.mvd_kept.proofs.kept.Kept.prepare_rows.Goals as goal

pub returns-in_err-rows-clause-whole : goal.returns-in_err-rows-clause-whole
returns-in_err-rows-clause-whole c =
    let defs = c.self.inside.config.defs in
    let states = c.self.inside.states in
    let unbroken : c.self.inside.broken ≡ false = ap (λ (s : SiteValue). s.broken) c.self.view_is ∙ c.requires in
    let p = err_from_is_err_and c.from_residual-in_err-rows.result c.from_residual-in_err-rows.ensures.1 in
    subst (λ r. IfErr r (λ refusal. refusal ≢ Broken)) (sym p.1)
    (never_broken p.0 _ (rows_refuses defs (visible_in states) c.args.view.now c.in_ok-after.after Broken (λ e. cc))
    (λ other. c.in_err-rows.ensures.refused (λ e. other (p.2 ∙ e)) defs states (c.self.invariant.listed unbroken) ∙ ap Err (sym p.2)))

pub returns-clause-ready : goal.returns-clause-ready
returns-clause-ready c =
    let defs = c.self.inside.config.defs in
    let states = c.self.inside.states in
    let unbroken : c.self.inside.broken ≡ false = ap (λ (s : SiteValue). s.broken) c.self.view_is ∙ c.requires in
    let page = rows_page defs (visible_in states) c.args.view.now c.in_ok-after.after c.in_ok-rows.rows.items c.in_ok-rows.is_more (c.in_ok-rows.ensures.found defs states (c.self.invariant.listed unbroken)) in
    record { accepts = refl; fits = subst (λ l. CanBeSent (Rows l c.in_ok-rows.is_more)) (sym c.new.ensures) (rows_can_be_sent c.in_ok-rows.rows.items c.in_ok-rows.is_more page.each page.few) }

pub returns-clause-looks : goal.returns-clause-looks
returns-clause-looks c =
    subst (λ n. Within 0 (n + 2) c.args.meter.now c.rows.new.meter) (sym (ap length c.new.ensures)) (c.in_ok-rows.ensures.given)

pub returns-in_err-rows-clause-looks : goal.returns-in_err-rows-clause-looks
returns-in_err-rows-clause-looks c =
    let p = err_from_is_err_and c.from_residual-in_err-rows.result c.from_residual-in_err-rows.ensures.1 in
    subst (λ r. Within 0 (prepared_looks r) c.args.meter.now c.rows.new.meter) (sym p.1)
    (refused_looks p.0 c.args.meter.now c.rows.new.meter c.rows.ensures.counts (λ other. c.in_err-rows.ensures.none (λ e. other (p.2 ∙ e))))

pub returns-in_err-after-clause-looks : goal.returns-in_err-after-clause-looks
returns-in_err-after-clause-looks c = unlooked _ c.args.meter.now
