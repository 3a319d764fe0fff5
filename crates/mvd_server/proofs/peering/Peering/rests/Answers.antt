use Rattle.std.proofs.Common.{◌∙◌, ap}
use Rattle.std.proofs.lemmas.Result.{err_from_is_err_and}
use Rattle.mvd_server.specs.PeerSays.{said_by}
use Rattle.mvd_server.specs.Talking.{talking_of}
use Rattle.mvd_server.specs.declared.crowd.Crowd.{Crowd}
use Rattle.mvd_server.specs.declared.peering.Peering.{Peering}
use Rattle.mvd_server.proofs.Deeds.{deeds_on}
use Rattle.mvd_server.proofs.PeerTelling.{begins_any, breaks_same, goes_err, goes_on}
use Rattle.mvd_server.proofs.peering.Peering.rests.Goals as goal

pub returns-clause-deeds : goal.returns-clause-deeds
returns-clause-deeds c = deeds_on (talking_of c.args.crowd.now.talks) (talking_of c.begin.new.crowd.talks) (talking_of c.ask.new.crowd.talks) c.begin.ensures.deeds c.ask.ensures.deeds

pub returns-in_err-begin-clause-says : goal.returns-in_err-begin-clause-says
returns-in_err-begin-clause-says c =
    let s = c.args.setting.now in
    let p = err_from_is_err_and c.from_residual.result c.from_residual.ensures.1 in
    goes_err c.from_residual.result _ _ p.0 p.1 (breaks_same _ _
    (ap (λ (q : Peering). said_by q s c.begin.new.crowd) c.in_err-begin.ensures.fails ∙ ap (λ (d : Crowd). said_by c.args.self.now s d) c.begin.ensures.crowd))

pub returns-clause-says : goal.returns-clause-says
returns-clause-says c =
    let s = c.args.setting.now in
    goes_on c.ask.result _ (said_by c.begin.new.self s c.begin.new.crowd) _
    (begins_any (record c.args.self.now { link = _ }) c.begin.new.self s c.args.crowd.now c.begin.new.crowd c.in_ok-begin.ensures.begins.session c.begin.ensures.rest c.begin.ensures.crowd) c.ask.ensures.says
