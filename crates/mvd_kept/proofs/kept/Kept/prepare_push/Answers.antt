use Rattle.std.proofs.Common.{refl, subst, Ok, ◌≡◌, sym}
use Rattle.mvd_keys.specs.State.{State, join_answer}
use Rattle.mvd_kept.proofs.kept.Kept.prepare_push.Goals as goal

pub returns-clause-answer : goal.returns-clause-answer
returns-clause-answer c = c.push_over.ensures.answer c.args.self.now.states (record { is_held = c.look-is_held.ensures.is_held; state = c.look-is_held.ensures.state; own = λ _. refl })

pub returns-clause-ready : goal.returns-clause-ready
returns-clause-ready c = c.push_over.ensures.ready c.args.self.now.states (record { is_held = c.look-is_held.ensures.is_held; state = c.look-is_held.ensures.state; own = λ _. refl })

pub returns-clause-frugal : goal.returns-clause-frugal
returns-clause-frugal c = λ holds.
    c.push_over.ensures.frugal (subst (λ (s : State). join_answer s c.args.pushed.now ≡ Ok s) (sym c.look-is_held.ensures.state) holds)
