use Rattle.mvd_server.specs.Wires.{wired_of}
use Rattle.mvd_server.proofs.Asking.{asked_first}
use Rattle.mvd_server.proofs.Rounds.{goes_none}
use Rattle.mvd_server.proofs.server.Server.answer_asking.Goals as goal

pub returns-then-is_empty : goal.returns-then-is_empty
returns-then-is_empty g c = goes_none g.K.Sockets (wired_of c.args.self.now.crowd.talks c.args.sockets.now) c.args.replica.now

pub returns : goal.returns
returns g c =
    asked_first g.K.Sockets c.args.self.now.crowd.talks c.round.new.self.talks c.send_all.new.crowd.talks c.args.sockets.now c.send_all.new.sockets c.args.replica.now c.round.new.replica c.round.ensures c.send_all.ensures
