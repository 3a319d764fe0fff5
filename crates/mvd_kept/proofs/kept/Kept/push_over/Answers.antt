use Rattle.std.proofs.Common.{◌≡◌, Bool, true, false, true≢false, refl, ap, sym, ◌∙◌, ⊎_elim, inl, inr, None, Ok}
use Rattle.mvd_keys.specs.State.{State, clashes, join, join_answer}
use Rattle.mvd_keys.specs.Writes.{is_empty}
use Rattle.mvd_keys.proofs.Lists.{join-empty}
use Rattle.mvd_wire.specs.declared.reply.Reply.TheVariants.{Done, Refused}
use Rattle.mvd_kept.specs.Answer.{is_too_large}
use Rattle.mvd_kept.specs.Over.{with_states}
use Rattle.mvd_kept.proofs.Lengths.{is_long, is_short}
use Rattle.mvd_kept.specs.declared.prepared.Prepared.TheVariants.{Answer}
use Rattle.mvd_kept.proofs.Outcomes.{change_plain, join_err, join_ok, memory_or_not}
use Rattle.mvd_kept.proofs.Prepare.{limited_push, pushed_clash, pushed_large}
use Rattle.mvd_kept.proofs.Steps.{within-still}
use Rattle.mvd_kept.proofs.kept.Kept.push_over.Goals as goal

pub returns-then-state_length-gt-STATE_LIMIT-clause-answer : goal.returns-then-state_length-gt-STATE_LIMIT-clause-answer
returns-then-state_length-gt-STATE_LIMIT-clause-answer c = λ states found.
    inl (pushed_large (with_states c.args.self.now states) c.args.key.now c.args.pushed.now (is_long c.args.pushed.now c.state_length.result c.state_length.ensures.length c.if-state_length-gt-STATE_LIMIT.true))

pub returns-then-includes-clause-answer : goal.returns-then-includes-clause-answer
returns-then-includes-clause-answer c = λ states found.
    let site = with_states c.args.self.now states in
    let old = c.args.old.now in
    let pushed = c.args.pushed.now in
    let small : is_too_large pushed ≡ false = is_short pushed c.state_length.result c.state_length.ensures.length c.if-state_length-gt-STATE_LIMIT.false in
    let same = join_ok old pushed old (c.if-includes.ensures.known.0 refl) in
    limited_push site c.args.key.now pushed old (Ok (Answer Done)) small
    (ap (λ s. clashes s pushed) (sym found.state) ∙ same.0) (same.1 ∙ ap (λ s. join s pushed) found.state)
    (within-still site.config site.states c.args.key.now old Done c.requires.short found.state, refl, found.state)

pub returns-then-includes-clause-ready : goal.returns-then-includes-clause-ready
returns-then-includes-clause-ready c = λ states found. change_plain None

pub returns-in-Err-clause-answer : goal.returns-in-Err-clause-answer
returns-in-Err-clause-answer c = λ states found.
    let old = c.args.old.now in
    let pushed = c.args.pushed.now in
    let small : is_too_large pushed ≡ false = is_short pushed c.state_length.result c.state_length.ensures.length c.if-state_length-gt-STATE_LIMIT.false in
    ⊎_elim (λ memory. inr memory)
    (λ other.
    let clash = join_err old pushed c.in-Err.refusal (c.in-Err.ensures.answer other) in
    inl (ap Refused clash.1 ∙ pushed_clash (with_states c.args.self.now states) c.args.key.now pushed small (ap (λ s. clashes s pushed) (sym found.state) ∙ clash.0)))
    (memory_or_not c.in-Err.refusal)

pub limited-requires : goal.limited-requires
limited-requires c =
    let old = c.args.old.now in
    let done = join_ok old c.args.pushed.now c.in-Ok.state c.in-Ok.ensures.answer in
    record { grows = λ none. done.1 ∙ join-empty old c.args.pushed.now c.requires.valid c.in-Ok.ensures.valid (ap (λ (s : State). is_empty s.context) (sym done.1) ∙ none) }

pub returns-in-Ok-clause-answer : goal.returns-in-Ok-clause-answer
returns-in-Ok-clause-answer c = λ states found.
    let old = c.args.old.now in
    let pushed = c.args.pushed.now in
    let small : is_too_large pushed ≡ false = is_short pushed c.state_length.result c.state_length.ensures.length c.if-state_length-gt-STATE_LIMIT.false in
    let done = join_ok old pushed c.in-Ok.state c.in-Ok.ensures.answer in
    limited_push (with_states c.args.self.now states) c.args.key.now pushed c.in-Ok.state c.limited.result small
    (ap (λ s. clashes s pushed) (sym found.state) ∙ done.0) (done.1 ∙ ap (λ s. join s pushed) found.state) (c.limited.ensures.limits states found)

-- where the state holds what is pushed, that was told above
held_already : (told : Bool) (P : Type 0) → (P → told ≡ true) → told ≡ false → P → ⊥
held_already told P tells apart holds = true≢false (sym (tells holds) ∙ apart)

pub returns-in-Err-clause-frugal : goal.returns-in-Err-clause-frugal
returns-in-Err-clause-frugal c = λ holds.
    absurd (held_already c.includes.result (join_answer c.args.old.now c.args.pushed.now ≡ Ok c.args.old.now) c.includes.ensures.known.1 c.if-includes.false holds)

pub returns-in-Ok-clause-frugal : goal.returns-in-Ok-clause-frugal
returns-in-Ok-clause-frugal c = λ holds.
    absurd (held_already c.includes.result (join_answer c.args.old.now c.args.pushed.now ≡ Ok c.args.old.now) c.includes.ensures.known.1 c.if-includes.false holds)
