use Rattle.std.proofs.Common.{Some, refl}
use Rattle.std.proofs.lemmas.Result.{IfOk-weaker}
use Rattle.mvd_server.proofs.PeerTelling.{over_link}
use Rattle.mvd_server.proofs.peering.Peering.ask_next.Goals as goal

pub returns-clause-steps : goal.returns-clause-steps
returns-clause-steps c =
    let link = c.step_of.new.link in
    IfOk-weaker c.step_of.result _ _ (λ how h. over_link c.args.self.now (record c.args.self.now { link = Some link; session = c.step_of.new.session }) c.in-Some.link link how c.in-Some.is refl h) c.step_of.ensures.steps
