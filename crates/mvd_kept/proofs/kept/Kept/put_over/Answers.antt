use Rattle.std.proofs.Common.{◌≡◌, ap, ap₂, sym, ◌∙◌, true≢false, ⊎_elim, inl, inr}
use Rattle.std.specs.FinSet.{union}
use Rattle.mvd_keys.specs.Minting.{mint}
use Rattle.mvd_keys.specs.State.{State, Text, after_put}
use Rattle.mvd_keys.specs.Writes.{is_empty}
use Rattle.mvd_keys.proofs.Lists.{is_empty-after_put}
use Rattle.mvd_wire.specs.declared.reply.Reply.TheVariants.{Refused}
use Rattle.mvd_kept.specs.Over.{with_states}
use Rattle.mvd_kept.specs.Sites.{SiteValue}
use Rattle.mvd_kept.proofs.Outcomes.{memory_or_not, put_err, put_ok}
use Rattle.mvd_kept.proofs.Prepare.{exhausted, limited_put}
use Rattle.mvd_kept.proofs.kept.Kept.put_over.Goals as goal

pub returns-in-Err-clause-answer : goal.returns-in-Err-clause-answer
returns-in-Err-clause-answer c = λ states found.
    let old = c.args.old.now in
    let seen = c.args.seen.now in
    let site : c.site.result ≡ c.args.self.now.config.site = c.site.ensures.site ∙ ap (λ (s : SiteValue). s.config.site) c.self.view_is in
    ⊎_elim (λ memory. inr memory)
    (λ other.
    let late = put_err old seen c.in_ok-document.document (mint c.site.result (union old.context seen)) c.in-Err.refusal (c.in-Err.ensures.answer other) in
    inl (ap Refused late.1 ∙ exhausted (with_states c.args.self.now states) c.args.key.now seen c.args.document.now
    (ap₂ (λ n (s : State). mint n (union s.context seen)) (sym site) (sym found.state) ∙ late.0)))
    (memory_or_not c.in-Err.refusal)

pub limited-requires : goal.limited-requires
limited-requires c =
    let old = c.args.old.now in
    let done = put_ok old c.args.seen.now c.in_ok-document.document (mint c.site.result (union old.context c.args.seen.now)) c.in-Ok.state c.in-Ok.dot c.in-Ok.ensures.answer in
    record { grows = λ none. absurd (true≢false (sym none ∙ ap (λ (s : State). is_empty s.context) done.1 ∙ is_empty-after_put old c.in-Ok.dot c.args.seen.now c.in_ok-document.document)) }

pub returns-in-Ok-clause-answer : goal.returns-in-Ok-clause-answer
returns-in-Ok-clause-answer c = λ states found.
    let old = c.args.old.now in
    let seen = c.args.seen.now in
    let site : c.site.result ≡ c.args.self.now.config.site = c.site.ensures.site ∙ ap (λ (s : SiteValue). s.config.site) c.self.view_is in
    let document : c.args.document.now ≡ c.in_ok-document.document = cc (c.in_ok-document.ensures) in
    let done = put_ok old seen c.in_ok-document.document (mint c.site.result (union old.context seen)) c.in-Ok.state c.in-Ok.dot c.in-Ok.ensures.answer in
    limited_put (with_states c.args.self.now states) c.args.key.now seen c.args.document.now c.in-Ok.dot c.in-Ok.state c.limited.result
    (ap₂ (λ n (s : State). mint n (union s.context seen)) (sym site) (sym found.state) ∙ done.0)
    (done.1 ∙ ap₂ (λ (s : State) (d : Text). after_put s c.in-Ok.dot seen d) found.state (sym document))
    (c.limited.ensures.limits states found)
