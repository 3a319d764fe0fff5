use Rattle.mvd_server.specs.Talking.{talking_of}
use Rattle.mvd_server.proofs.Deeds.{deeds_on}
use Rattle.mvd_server.proofs.clientele.Clientele.wake.Goals as goal

pub returns : goal.returns
returns g c = deeds_on (talking_of c.args.crowd.now.talks) (talking_of c.wake_waiting.new.crowd.talks) (talking_of c.close_if_asked.new.crowd.talks) c.wake_waiting.ensures c.close_if_asked.ensures
