use Rattle.std.proofs.Common.{refl}
use Rattle.mvd_server.proofs.PeerTelling.{tells_so}
use Rattle.mvd_server.proofs.peering.Peering.tell.Goals as goal

pub returns-clause-says : goal.returns-clause-says
returns-clause-says c =
    λ setting. tells_so c.args.self.now c.tell.new.self setting c.args.crowd.now (record c.args.crowd.now { told = c.tell.new.told }) c.tell.ensures.untold c.tell.ensures.told refl
