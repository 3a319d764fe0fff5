use Rattle.std.proofs.Common.{Some, refl}
use Rattle.mvd_server.proofs.PeerTelling.{moves_so}
use Rattle.mvd_server.proofs.peering.Peering.hand_on.Goals as goal

pub returns-then-is_busy-clause-says : goal.returns-then-is_busy-clause-says
returns-then-is_busy-clause-says c = λ setting.
    let a = c.in-Some.session in
    let b = c.hand_on.new.self in
    moves_so c.args.self.now (record c.args.self.now { session = Some b }) setting c.args.crowd.now (record c.args.crowd.now { talks = c.hand_on.new.talks }) a b c.in-Some.is refl refl c.hand_on.ensures.session
    c.hand_on.ensures.moves refl
