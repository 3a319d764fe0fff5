use Rattle.mvd_server.proofs.PeerTelling.{fails_now}
use Rattle.mvd_server.proofs.peering.Peering.fail_if.Goals as goal

pub returns-then-is_busy-clause-says : goal.returns-then-is_busy-clause-says
returns-then-is_busy-clause-says c = λ setting. fails_now _ _ _ (c.fail.ensures.says setting)
