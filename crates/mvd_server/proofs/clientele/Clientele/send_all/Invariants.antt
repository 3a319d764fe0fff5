use Rattle.mvd_server.specs.Wires.{Carries, wired_of}
use Rattle.mvd_server.proofs.clientele.Clientele.send_all.Given as goal

abbrev pub invariant-loop-number : goal.invariant-loop-number
invariant-loop-number g l = Carries g.K.Sockets (wired_of l.initial.crowd.talks l.initial.sockets) (wired_of l.crowd.talks l.sockets)
