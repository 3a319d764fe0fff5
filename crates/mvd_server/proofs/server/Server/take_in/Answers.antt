use Rattle.std.proofs.Common.{refl}
use Rattle.mvd_server.specs.Talking.{talking_of}
use Rattle.mvd_server.specs.Wires.{wired_of}
use Rattle.mvd_server.proofs.Deeds.{carries_deeds, carries_on}
use Rattle.mvd_server.proofs.server.Server.take_in.Goals as goal

pub returns : goal.returns
returns g c =
    let start = wired_of c.args.self.now.crowd.talks c.args.sockets.now in
    let mid = wired_of c.let_in.new.self.crowd.talks c.let_in.new.sockets in
    let read = c.read_all.new.crowd.talks in
    let idle = c.end_idle.new.crowd.talks in
    let s = c.read_all.new.sockets in
    carries_on g.K.Sockets start (wired_of read s) (wired_of idle s)
    (carries_on g.K.Sockets start mid (wired_of read s) c.let_in.ensures c.read_all.ensures)
    (carries_deeds g.K.Sockets (talking_of read) (talking_of idle) s s refl c.end_idle.ensures)
