use Rattle.std.proofs.Common.{subst, sym}
use Rattle.mvd_server.specs.Wires.{wired_of}
use Rattle.mvd_server.specs.Talking.{Talking}
use Rattle.mvd_server.specs.Wires.{Carries}
use Rattle.mvd_server.proofs.Deeds.{carries_none, carries_on}
use Rattle.mvd_server.proofs.clientele.Clientele.write_all.Goals as goal

pub loop-number-init : goal.loop-number-init
loop-number-init g c = carries_none g.K.Sockets (wired_of c.args.crowd.now.talks c.args.sockets.now)

pub loop-number-preserved : goal.loop-number-preserved
loop-number-preserved g c =
    let start = wired_of c.args.crowd.now.talks c.args.sockets.now in
    subst (λ (t : Talking). Carries g.K.Sockets start (record { talking = t; sockets = c.write.new.sockets })) (sym c.list_again.ensures)
    (carries_on g.K.Sockets start (wired_of c.loop-number.crowd.talks c.loop-number.sockets) (wired_of c.write.new.crowd.talks c.write.new.sockets) c.loop-number.invariant c.write.ensures)

pub returns-in_err-write : goal.returns-in_err-write
returns-in_err-write g c =
    carries_on g.K.Sockets (wired_of c.args.crowd.now.talks c.args.sockets.now) (wired_of c.loop-number.crowd.talks c.loop-number.sockets) (wired_of c.write.new.crowd.talks c.write.new.sockets) c.loop-number.invariant c.write.ensures
