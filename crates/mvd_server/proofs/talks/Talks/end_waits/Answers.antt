use Rattle.mvd_server.specs.Talking.{talking_of}
use Rattle.mvd_server.proofs.Deeds.{deeds_on}
use Rattle.mvd_server.proofs.talks.Talks.end_waits.Goals as goal

pub loop-preserved : goal.loop-preserved
loop-preserved c = deeds_on (talking_of c.args.self.now) (talking_of c.loop.self) (talking_of c.end_wait.new.self) c.loop.invariant c.end_wait.ensures
