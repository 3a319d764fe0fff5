use Rattle.mvd_server.specs.Wires.{wired_of}
use Rattle.mvd_server.proofs.Deeds.{carries_on}
use Rattle.mvd_server.proofs.door.Door.admit.Goals as goal

pub returns-in_err-admit_one : goal.returns-in_err-admit_one
returns-in_err-admit_one g c = carries_on g.K.Sockets (wired_of c.args.crowd.now.talks c.args.sockets.now) (wired_of c.loop.crowd.talks c.loop.sockets) (wired_of c.admit_one.new.crowd.talks c.admit_one.new.sockets) c.loop.invariant c.admit_one.ensures

pub loop-preserved : goal.loop-preserved
loop-preserved g c = carries_on g.K.Sockets (wired_of c.args.crowd.now.talks c.args.sockets.now) (wired_of c.loop.crowd.talks c.loop.sockets) (wired_of c.admit_one.new.crowd.talks c.admit_one.new.sockets) c.loop.invariant c.admit_one.ensures
