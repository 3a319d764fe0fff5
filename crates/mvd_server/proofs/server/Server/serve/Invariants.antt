use Rattle.mvd_server.specs.Rounds.{GoesOnServing}
use Rattle.mvd_server.specs.Wires.{wired_of}
use Rattle.mvd_server.proofs.server.Server.serve.Given as goal

-- one host served so far
abbrev pub invariant-loop-round : goal.invariant-loop-round
invariant-loop-round g l = GoesOnServing g.K.Sockets (wired_of l.initial.self.crowd.talks l.initial.sockets) l.initial.replica (wired_of l.self.crowd.talks l.sockets) l.replica
