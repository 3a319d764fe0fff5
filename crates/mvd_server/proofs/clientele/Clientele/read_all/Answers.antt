use Rattle.mvd_server.specs.Wires.{wired_of}
use Rattle.mvd_server.proofs.Deeds.{carries_none, carries_on}
use Rattle.mvd_server.proofs.clientele.Clientele.read_all.Goals as goal

pub loop-number-init : goal.loop-number-init
loop-number-init g c = carries_none g.K.Sockets (wired_of c.args.crowd.now.talks c.args.sockets.now)

pub loop-number-preserved : goal.loop-number-preserved
loop-number-preserved g c =
    carries_on g.K.Sockets (wired_of c.args.crowd.now.talks c.args.sockets.now) (wired_of c.loop-number.crowd.talks c.loop-number.sockets) (wired_of c.read.new.crowd.talks c.read.new.sockets) c.loop-number.invariant c.read.ensures
