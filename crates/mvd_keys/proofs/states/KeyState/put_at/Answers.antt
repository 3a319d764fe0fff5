use Rattle.std.proofs.Common.{◌≡◌, [], ◌∷◌, ap, sym, ◌∙◌, subst}
use Rattle.std.specs.Prelude.{Ok, Err}
use Rattle.std.specs.FinSet.{insert}
use Rattle.std.proofs.lemmas.Result.{err_from_is_err_and}
use Rattle.mvd_dots.specs.Answer.{IsAnswer}
use Rattle.mvd_keys.specs.State.{AreParts, after_put, join_answer, state_of}
use Rattle.mvd_dots.proofs.Answer.{answered}
use Rattle.mvd_keys.proofs.Parts.{never_refused, parts_one, put_answers}
use Rattle.mvd_keys.proofs.states.KeyState.put_at.Goals as goal

pub join_parts-requires : goal.join_parts-requires
join_parts-requires c =
    let seen : c.add.new.self ≡ insert c.args.seen.now c.args.dot = c.in_ok-add.ensures.ok ∙ ap (λ s. insert s c.args.dot) (answered _ _ c.in_ok-context.ensures) in
    subst (λ s. AreParts (record { dot = c.args.dot; document = c.args.document } ∷ []) s) (sym seen) (parts_one c.args.dot c.args.document c.args.seen.now)

pub returns-in_err-state : goal.returns-in_err-state
returns-in_err-state c =
    let state = c.args.self.now in
    let seen : c.add.new.self ≡ insert c.args.seen.now c.args.dot = c.in_ok-add.ensures.ok ∙ ap (λ s. insert s c.args.dot) (answered _ _ c.in_ok-context.ensures) in
    let answer = ap (λ s. join_answer state (state_of (record { dot = c.args.dot; document = c.args.document } ∷ []) s)) seen
    ∙ put_answers state c.args.dot c.args.seen.now c.args.document c.requires.valid c.requires.unseen in
    let p = err_from_is_err_and c.from_residual-in_err-state.result c.from_residual-in_err-state.ensures.1 in
    subst (λ r. IsAnswer r (Ok (after_put state c.args.dot c.args.seen.now c.args.document, c.args.dot))) (sym p.1)
    (never_refused p.0 _ _ _ answer (λ other. c.in_err-state.ensures (λ e. other (p.2 ∙ e)) ∙ ap Err (sym p.2)))

pub returns : goal.returns
returns c =
    let state = c.args.self.now in
    let seen : c.add.new.self ≡ insert c.args.seen.now c.args.dot = c.in_ok-add.ensures.ok ∙ ap (λ s. insert s c.args.dot) (answered _ _ c.in_ok-context.ensures) in
    let answer = ap (λ s. join_answer state (state_of (record { dot = c.args.dot; document = c.args.document } ∷ []) s)) seen
    ∙ put_answers state c.args.dot c.args.seen.now c.args.document c.requires.valid c.requires.unseen in
    let is : after_put state c.args.dot c.args.seen.now c.args.document ≡ c.in_ok-state.state = cc (answer, c.in_ok-state.ensures) in
    ap (λ s. Ok (s, c.args.dot)) is
