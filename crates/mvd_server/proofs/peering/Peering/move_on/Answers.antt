use Rattle.std.proofs.Common.{ap, refl}
use Rattle.mvd_server.specs.PeerSays.{said_by}
use Rattle.mvd_server.specs.declared.peer_news.Setting.{Setting}
use Rattle.mvd_server.proofs.PeerTelling.{goes_same}
use Rattle.mvd_server.proofs.peering.Peering.move_on.Goals as goal

pub returns-in-Connects-clause-says : goal.returns-in-Connects-clause-says
returns-in-Connects-clause-says c = goes_same c.connects.result _ _ refl

pub returns-in-Greets-clause-says : goal.returns-in-Greets-clause-says
returns-in-Greets-clause-says c = goes_same c.greets.result _ _ (ap (λ (s : Setting). said_by c.args.self.now s c.args.crowd.now) c.greets.ensures.setting)
