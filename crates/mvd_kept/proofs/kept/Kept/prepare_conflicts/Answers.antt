use Rattle.std.proofs.Common.{◌+◌, ◌≡◌, false, length, refl, ap, sym, ◌∙◌, subst}
use Rattle.std.proofs.lemmas.Result.{err_from_is_err_and}
use Rattle.std.specs.Option.{option_copied}
use Rattle.mvd_rows.specs.Counted.{Within}
use Rattle.mvd_rows.specs.Siblings.{conflicts_answer}
use Rattle.mvd_wire.specs.declared.reply.Reply.TheVariants.{Counts}
use Rattle.mvd_wire.specs.Replies.{CanBeSent}
use Rattle.mvd_wire.proofs.SentPages.{counts_can_be_sent}
use Rattle.mvd_kept.specs.Answer.{counts_reply}
use Rattle.mvd_kept.specs.Costs.{prepared_looks}
use Rattle.mvd_kept.specs.Sites.{SiteValue}
use Rattle.mvd_kept.proofs.Listed.{conflicts_page}
use Rattle.mvd_kept.proofs.Spent.{refused_looks}
use Rattle.mvd_kept.proofs.kept.Kept.prepare_conflicts.Goals as goal

pub returns-clause-answer : goal.returns-clause-answer
returns-clause-answer c =
    let after = option_copied c.args.after in
    let unbroken : c.self.inside.broken ≡ false = ap (λ (s : SiteValue). s.broken) c.self.view_is ∙ c.requires in
    ap (λ l. Counts l c.in_ok-keys.is_more) c.new.ensures
    ∙ sym (ap (λ (s : SiteValue). counts_reply (conflicts_answer s.states after)) (sym c.self.view_is)
    ∙ ap counts_reply (c.in_ok-keys.ensures.found c.self.inside.config.defs c.self.inside.states (c.self.invariant.listed unbroken)))

pub returns-clause-ready : goal.returns-clause-ready
returns-clause-ready c =
    let unbroken : c.self.inside.broken ≡ false = ap (λ (s : SiteValue). s.broken) c.self.view_is ∙ c.requires in
    let page = conflicts_page c.self.inside.states (option_copied c.args.after) c.in_ok-keys.keys.items c.in_ok-keys.is_more c.stands.ensures
    (c.in_ok-keys.ensures.found c.self.inside.config.defs c.self.inside.states (c.self.invariant.listed unbroken)) in
    record { accepts = refl; fits = subst (λ l. CanBeSent (Counts l c.in_ok-keys.is_more)) (sym c.new.ensures) (counts_can_be_sent c.in_ok-keys.keys.items c.in_ok-keys.is_more page.each page.few) }

pub returns-clause-looks : goal.returns-clause-looks
returns-clause-looks c =
    subst (λ n. Within 0 (n + 2) c.args.meter.now c.conflicts.new.meter) (sym (ap length c.new.ensures)) c.in_ok-keys.ensures.given

pub returns-in_err-keys-clause-looks : goal.returns-in_err-keys-clause-looks
returns-in_err-keys-clause-looks c =
    let p = err_from_is_err_and c.from_residual.result c.from_residual.ensures.1 in
    subst (λ r. Within 0 (prepared_looks r) c.args.meter.now c.conflicts.new.meter) (sym p.1)
    (refused_looks p.0 c.args.meter.now c.conflicts.new.meter c.conflicts.ensures.counts (λ other. absurd (other (p.2 ∙ c.in_err-keys.ensures.memory))))
