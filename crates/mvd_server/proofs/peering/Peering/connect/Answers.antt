use Rattle.mvd_server.proofs.PeerTelling.{fails_now}
use Rattle.mvd_server.proofs.peering.Peering.connect.Goals as goal

pub returns-in-Err-clause-says : goal.returns-in-Err-clause-says
returns-in-Err-clause-says g c = fails_now _ _ _ (c.fail.ensures.says c.args.setting.now)
