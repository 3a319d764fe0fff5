use Rattle.mvd_server.specs.Talking.{talking_of}
use Rattle.mvd_server.proofs.Deeds.{deeds_none, deeds_on}
use Rattle.mvd_server.proofs.clientele.Clientele.close_all.Goals as goal

pub loop-init : goal.loop-init
loop-init g c = deeds_none (talking_of c.args.crowd.now.talks)

pub loop-preserved : goal.loop-preserved
loop-preserved g c = deeds_on (talking_of c.args.crowd.now.talks) (talking_of c.loop.crowd.talks) (talking_of c.close_one.new.crowd.talks) c.loop.invariant c.close_one.ensures
