use Rattle.std.proofs.Common.{ap, subst}
use Rattle.std.proofs.lemmas.Result.{err_from_is_err_and}
use Rattle.mvd_server.specs.PeerSays.{PeerWent, said_by}
use Rattle.mvd_server.specs.declared.peering.Peering.{Peering}
use Rattle.mvd_server.proofs.PeerTelling.{breaks_so, goes_err, leaves_so, went_done, went_on}
use Rattle.mvd_server.proofs.peering.Peering.ask.Goals as goal

pub returns-then-setting-clause-says : goal.returns-then-setting-clause-says
returns-then-setting-clause-says c =
    leaves_so c.args.self.now c.leave.new.self c.args.setting.now c.args.crowd.now c.leave.new.crowd c.if-setting.true c.leave.ensures.rest c.leave.ensures.crowd

pub returns-in_err-ask_next-clause-says : goal.returns-in_err-ask_next-clause-says
returns-in_err-ask_next-clause-says c =
    let p = err_from_is_err_and c.from_residual.result c.from_residual.ensures.1 in
    goes_err c.from_residual.result _ _ p.0 p.1 (breaks_so _ _ (ap (λ (q : Peering). said_by q c.args.setting.now c.args.crowd.now) c.ask_next.ensures.rest))

pub returns-in-Asks-clause-says : goal.returns-in-Asks-clause-says
returns-in-Asks-clause-says c =
    went_on c.args.self.now c.ask_next.new.self c.args.setting.now c.args.crowd.now c.ask_next.ensures.rest
    (subst (λ how. PeerWent c.args.self.now c.ask_next.new.self how) c.in-Asks.is c.in_ok-ask_next.ensures.steps)

pub returns-in-Done-clause-says : goal.returns-in-Done-clause-says
returns-in-Done-clause-says c =
    went_done c.args.self.now c.ask_next.new.self c.args.setting.now c.args.crowd.now c.ask_next.ensures.rest c.done.new.self c.done.new.setting c.done.new.crowd c.in-Done.session
    (subst (λ how. PeerWent c.args.self.now c.ask_next.new.self how) c.in-Done.is c.in_ok-ask_next.ensures.steps) c.done.ensures.says
