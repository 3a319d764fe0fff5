use Rattle.mvd_server.specs.Talking.{talking_of}
use Rattle.mvd_server.proofs.Deeds.{deeds_on}
use Rattle.mvd_server.proofs.talks.Talks.rotate.Goals as goal

pub returns : goal.returns
returns c = deeds_on (talking_of c.args.self.now) (talking_of c.end_waits.new.self) (talking_of c.know.new.self) c.end_waits.ensures c.know.ensures
