use Rattle.std.proofs.Common.{◌+◌, length, ◌≡◌, ◌≢◌, false, Err, IfErr, refl, ap, sym, ◌∙◌, subst}
use Rattle.std.proofs.lemmas.Result.{err_from_is_err_and}
use Rattle.mvd_dots.specs.declared.refusals.Refusal.TheVariants.{Broken}
use Rattle.mvd_wire.specs.declared.reply.Reply.TheVariants.{Places}
use Rattle.mvd_wire.proofs.SentPages.{places_can_be_sent}
use Rattle.mvd_kept.proofs.Listed.{never_broken, range_refuses, ranged_page}
use Rattle.mvd_rows.specs.Counted.{Within}
use Rattle.mvd_rows.specs.Visible.{visible_in}
use Rattle.mvd_wire.specs.Replies.{CanBeSent}
use Rattle.mvd_kept.specs.Costs.{prepared_looks}
use Rattle.mvd_kept.specs.Sites.{SiteValue}
use Rattle.mvd_kept.proofs.Spent.{refused_looks, unlooked}
use Rattle.mvd_kept.proofs.kept.Kept.prepare_range.Goals as goal

pub returns-in_err-places-clause-whole : goal.returns-in_err-places-clause-whole
returns-in_err-places-clause-whole c =
    let defs = c.self.inside.config.defs in
    let states = c.self.inside.states in
    let unbroken : c.self.inside.broken ≡ false = ap (λ (s : SiteValue). s.broken) c.self.view_is ∙ c.requires in
    let p = err_from_is_err_and c.from_residual-in_err-places.result c.from_residual-in_err-places.ensures.1 in
    subst (λ r. IfErr r (λ refusal. refusal ≢ Broken)) (sym p.1)
    (never_broken p.0 _ (range_refuses defs (visible_in states) c.args.field.now c.args.from.now c.args.to.now c.in_ok-after.after Broken (λ e. cc))
    (λ other. c.in_err-places.ensures.refused (λ e. other (p.2 ∙ e)) defs states (c.self.invariant.listed unbroken) ∙ ap Err (sym p.2)))

pub returns-clause-ready : goal.returns-clause-ready
returns-clause-ready c =
    let defs = c.self.inside.config.defs in
    let states = c.self.inside.states in
    let unbroken : c.self.inside.broken ≡ false = ap (λ (s : SiteValue). s.broken) c.self.view_is ∙ c.requires in
    let page = ranged_page defs states c.args.field.now c.args.from.now c.args.to.now c.in_ok-after.after c.in_ok-places.places.items c.in_ok-places.is_more c.stands.ensures (c.in_ok-places.ensures.found defs states (c.self.invariant.listed unbroken)) in
    record { accepts = refl; fits = subst (λ l. CanBeSent (Places l c.in_ok-places.is_more)) (sym c.new.ensures) (places_can_be_sent c.in_ok-places.places.items c.in_ok-places.is_more page.each page.few) }

pub returns-clause-looks : goal.returns-clause-looks
returns-clause-looks c =
    subst (λ n. Within 0 (n + 2) c.args.meter.now c.range.new.meter) (sym (ap length c.new.ensures)) (c.in_ok-places.ensures.given c.self.inside.config.defs c.self.inside.states (c.self.invariant.listed (ap (λ (s : SiteValue). s.broken) c.self.view_is ∙ c.requires)))

pub returns-in_err-places-clause-looks : goal.returns-in_err-places-clause-looks
returns-in_err-places-clause-looks c =
    let p = err_from_is_err_and c.from_residual-in_err-places.result c.from_residual-in_err-places.ensures.1 in
    subst (λ r. Within 0 (prepared_looks r) c.args.meter.now c.range.new.meter) (sym p.1)
    (refused_looks p.0 c.args.meter.now c.range.new.meter c.range.ensures.counts (λ other. c.in_err-places.ensures.none (λ e. other (p.2 ∙ e))))

pub returns-in_err-after-clause-looks : goal.returns-in_err-after-clause-looks
returns-in_err-after-clause-looks c = unlooked _ c.args.meter.now
