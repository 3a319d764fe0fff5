use Rattle.std.proofs.Common.{refl}
use Rattle.mvd_server.specs.Talking.{talking_of}
use Rattle.mvd_server.specs.Wires.{wired_of}
use Rattle.mvd_server.proofs.Deeds.{carries_deeds, carries_on}
use Rattle.mvd_server.proofs.clientele.Clientele.write.Goals as goal

pub returns : goal.returns
returns g c =
    carries_on g.K.Sockets (wired_of c.args.crowd.now.talks c.args.sockets.now) (wired_of c.send_to.new.crowd.talks c.send_to.new.sockets) (wired_of c.finish.new.crowd.talks c.send_to.new.sockets) c.send_to.ensures
    (carries_deeds g.K.Sockets (talking_of c.send_to.new.crowd.talks) (talking_of c.finish.new.crowd.talks) c.send_to.new.sockets c.send_to.new.sockets refl (c.finish.ensures (c.is_done.ensures c.if-not-is_done.false)))
