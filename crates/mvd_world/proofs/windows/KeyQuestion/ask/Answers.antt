use Rattle.std.proofs.Common.{sym, ap, subst}
use Rattle.std.specs.Prelude.{Err}
use Rattle.mvd_world.specs.OpenWorlds.{TellsSent}
use Rattle.mvd_world.proofs.Asking.{not_sent, told_sent}
use Rattle.mvd_world.proofs.windows.KeyQuestion.ask.Goals as goal

pub returns-in-Sent : goal.returns-in-Sent
returns-in-Sent c setting before world sent =
    let m = c.step-outcome.ensures.machine setting before world in
    (m.0, ((c.step-outcome.result, m.1.0, told_sent setting c.step-outcome.new.self before c.args.site c.args.self c.step-outcome.result c.in-Sent.number m.0 c.copy_sent.result c.in-Sent.is m.1.1 m.1.0 c.copy_sent.ensures.copied c.copy_sent.ensures.memory), m.1.1))

pub returns-in_default : goal.returns-in_default
returns-in_default c setting before world sent =
    let m = c.step-outcome.ensures.machine setting before world in
    (m.0, ((c.step-outcome.result, m.1.0, subst (TellsSent m.0.messages c.step-outcome.result c.args.self) (sym (ap Err c.refusal_in.ensures)) (not_sent m.0.messages c.args.self c.step-outcome.result c.in_default.not-Sent)), m.1.1))
