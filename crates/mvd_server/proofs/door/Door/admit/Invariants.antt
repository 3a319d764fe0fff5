use Rattle.mvd_server.specs.Wires.{Carries, wired_of}
use Rattle.mvd_server.proofs.door.Door.admit.Given as goal

abbrev pub invariant-loop : goal.invariant-loop
invariant-loop g l = Carries g.K.Sockets (wired_of l.initial.crowd.talks l.initial.sockets) (wired_of l.crowd.talks l.sockets)
