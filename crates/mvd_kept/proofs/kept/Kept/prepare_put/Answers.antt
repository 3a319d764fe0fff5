use Rattle.std.proofs.Common.{refl}
use Rattle.mvd_kept.proofs.kept.Kept.prepare_put.Goals as goal

pub returns-clause-answer : goal.returns-clause-answer
returns-clause-answer c = c.put_over.ensures.answer c.args.self.now.states (record { is_held = c.look-is_held.ensures.is_held; state = c.look-is_held.ensures.state; own = λ _. refl })

pub returns-clause-ready : goal.returns-clause-ready
returns-clause-ready c = c.put_over.ensures.ready c.args.self.now.states (record { is_held = c.look-is_held.ensures.is_held; state = c.look-is_held.ensures.state; own = λ _. refl })
