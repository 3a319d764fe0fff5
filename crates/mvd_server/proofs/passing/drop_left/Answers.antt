use Rattle.std.proofs.Common.{ℕ, subst}
use Rattle.mvd_server.specs.Talking.{talking_of}
use Rattle.mvd_server.specs.Wires.{IsNoClient}
use Rattle.mvd_server.proofs.Wiring.{carries_dropped}
use Rattle.mvd_server.proofs.passing.drop_left.Goals as goal

pub returns : goal.returns
returns g c =
    let t = talking_of c.args.talks.now in
    let n = g.K.Sockets.number_of c.args.client.now.socket in
    carries_dropped g.K.Sockets n t c.args.sockets.now c.drop_input.new.sockets (subst (λ (i : ℕ). IsNoClient t i) c.number.ensures (c.has.ensures c.if-has.false)) c.drop_input.ensures
