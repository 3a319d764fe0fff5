use Rattle.std.proofs.Common.{refl}
use Rattle.mvd_server.specs.Talking.{talking_of}
use Rattle.mvd_server.proofs.talks.Talks.meet_all.Goals as goal

pub returns-in-Some-clause-deeds : goal.returns-in-Some-clause-deeds
returns-in-Some-clause-deeds c = c.meet_each.ensures.deeds (talking_of c.args.self.now) c.in-Some.is refl
