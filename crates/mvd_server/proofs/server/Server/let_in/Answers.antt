use Rattle.mvd_server.specs.Wires.{wired_of}
use Rattle.mvd_server.proofs.Deeds.{carries_on}
use Rattle.mvd_server.proofs.server.Server.let_in.Goals as goal

pub returns-in_err-admit-2 : goal.returns-in_err-admit-2
returns-in_err-admit-2 g c = carries_on g.K.Sockets (wired_of c.args.self.now.crowd.talks c.args.sockets.now) (wired_of c.admit.new.crowd.talks c.admit.new.sockets) (wired_of c.admit-in-Some.new.crowd.talks c.admit-in-Some.new.sockets) c.admit.ensures c.admit-in-Some.ensures

pub returns-in_ok-admit-2 : goal.returns-in_ok-admit-2
returns-in_ok-admit-2 g c = carries_on g.K.Sockets (wired_of c.args.self.now.crowd.talks c.args.sockets.now) (wired_of c.admit.new.crowd.talks c.admit.new.sockets) (wired_of c.admit-in-Some.new.crowd.talks c.admit-in-Some.new.sockets) c.admit.ensures c.admit-in-Some.ensures
