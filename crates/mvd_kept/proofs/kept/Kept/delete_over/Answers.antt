use Rattle.std.proofs.Common.{◌≡◌, ap, sym, ◌∙◌}
use Rattle.mvd_keys.specs.State.{State, after_delete}
use Rattle.mvd_keys.specs.Writes.{is_empty}
use Rattle.mvd_keys.proofs.Lists.{after_delete-empty}
use Rattle.mvd_kept.specs.Over.{with_states}
use Rattle.mvd_kept.proofs.Prepare.{limited_delete}
use Rattle.mvd_kept.proofs.kept.Kept.delete_over.Goals as goal

pub limited-requires : goal.limited-requires
limited-requires c =
    let old = c.args.old.now in
    let done : after_delete old c.args.seen.now ≡ c.in-Ok.state = cc (c.in-Ok.ensures) in
    record { grows = λ none. sym done ∙ after_delete-empty old c.args.seen.now c.requires.valid (ap (λ (s : State). is_empty s.context) done ∙ none) }

pub returns-in-Ok-clause-answer : goal.returns-in-Ok-clause-answer
returns-in-Ok-clause-answer c = λ states found.
    let old = c.args.old.now in
    let done : after_delete old c.args.seen.now ≡ c.in-Ok.state = cc (c.in-Ok.ensures) in
    limited_delete (with_states c.args.self.now states) c.args.key.now c.args.seen.now c.in-Ok.state c.limited.result
    (sym done ∙ ap (λ s. after_delete s c.args.seen.now) found.state) (c.limited.ensures.limits states found)
