use Rattle.std.proofs.Common.{arith}
use Rattle.mvd_server.specs.PeerSays.{said_by}
use Rattle.mvd_server.specs.Talking.{talking_of}
use Rattle.mvd_server.proofs.Deeds.{deeds_on}
use Rattle.mvd_server.proofs.PeerTelling.{fails_broken, says_on}
use Rattle.mvd_server.proofs.peering.Peering.go_on.Goals as goal

pub returns-in-Ok-false-clause-deeds : goal.returns-in-Ok-false-clause-deeds
returns-in-Ok-false-clause-deeds c = deeds_on (talking_of c.args.crowd.now.talks) (talking_of c.loop-turn.crowd.talks) (talking_of c.step.new.crowd.talks) c.loop-turn.invariant.deeds c.step.ensures.deeds

pub returns-in-Err-clause-deeds : goal.returns-in-Err-clause-deeds
returns-in-Err-clause-deeds c = deeds_on (talking_of c.args.crowd.now.talks) (talking_of c.step.new.crowd.talks) (talking_of c.fail.new.crowd.talks) (deeds_on (talking_of c.args.crowd.now.talks) (talking_of c.loop-turn.crowd.talks) (talking_of c.step.new.crowd.talks) c.loop-turn.invariant.deeds c.step.ensures.deeds) c.fail.ensures.deeds

pub loop-turn-preserved : goal.loop-turn-preserved
loop-turn-preserved c = record {
  free = omega (arith, c.loop-turn.invariant.free, c.step.ensures.free);
  deeds = deeds_on (talking_of c.args.crowd.now.talks) (talking_of c.loop-turn.crowd.talks) (talking_of c.step.new.crowd.talks) c.loop-turn.invariant.deeds c.step.ensures.deeds;
  says = says_on _ (said_by c.loop-turn.self c.loop-turn.setting c.loop-turn.crowd) _ c.loop-turn.invariant.says c.in-Ok-true.ensures.says;
}

pub returns-in-Ok-false-clause-says : goal.returns-in-Ok-false-clause-says
returns-in-Ok-false-clause-says c = says_on _ (said_by c.loop-turn.self c.loop-turn.setting c.loop-turn.crowd) _ c.loop-turn.invariant.says c.in-Ok-false.ensures.says

pub returns-in-Err-clause-says : goal.returns-in-Err-clause-says
returns-in-Err-clause-says c =
    let mid = said_by c.loop-turn.self c.loop-turn.setting c.loop-turn.crowd in
    let broken = said_by c.step.new.self c.step.new.setting c.step.new.crowd in
    says_on _ mid _ c.loop-turn.invariant.says (fails_broken _ mid broken _ c.in-Err.ensures.says (c.fail.ensures.says c.step.new.setting))
