use Rattle.std.proofs.Common.{List, refl, subst, take, ℕ}
use Rattle.mvd_server.specs.Talking.{talking_of}
use Rattle.mvd_server.specs.Wires.{TakesInput, wired_of}
use Rattle.mvd_server.proofs.Deeds.{carries_deeds, carries_in, carries_on}
use Rattle.mvd_server.proofs.Wiring.{carries_end, carries_still, takes_in}
use Rattle.mvd_server.proofs.passing.receive.Goals as goal

pub returns-in-Bytes : goal.returns-in-Bytes
returns-in-Bytes g c =
    let n = g.K.Sockets.number_of c.args.client.now.socket in
    let old = talking_of c.args.talks.now in
    let new = talking_of c.feed.new.self in
    let bytes = take c.in-Bytes.count c.read.new.piece.bytes.items in
    let takes = takes_in c.number-number.result c.first.result.now old new (c.wants_input.ensures c.if-not-wants_input.false) c.feed.ensures in
    carries_in g.K.Sockets n bytes old new c.args.sockets.now c.read.new.sockets c.in-Bytes.ensures.gives
    (subst (λ (i : ℕ). TakesInput i bytes old new) c.number-number.ensures (subst (λ (b : List ℕ). TakesInput c.number-number.result b old new) c.first.ensures.first takes))

pub returns-in-Nothing : goal.returns-in-Nothing
returns-in-Nothing g c = carries_still g.K.Sockets (talking_of c.args.talks.now) c.args.sockets.now c.read.new.sockets c.in-Nothing.ensures.gives

pub returns-in-End : goal.returns-in-End
returns-in-End g c =
    let old = talking_of c.args.talks.now in
    let new = talking_of c.end_input.new.self in
    carries_on g.K.Sockets (wired_of c.args.talks.now c.args.sockets.now) (wired_of c.args.talks.now c.read.new.sockets) (wired_of c.end_input.new.self c.read.new.sockets)
    (carries_end g.K.Sockets (g.K.Sockets.number_of c.args.client.now.socket) old c.args.sockets.now c.read.new.sockets c.in-End.ensures.gives)
    (carries_deeds g.K.Sockets old new c.read.new.sockets c.read.new.sockets refl c.end_input.ensures)

pub returns-in-Failed : goal.returns-in-Failed
returns-in-Failed g c =
    let old = talking_of c.args.talks.now in
    let new = talking_of c.fail_input.new.self in
    carries_deeds g.K.Sockets old new c.args.sockets.now c.read.new.sockets c.in-Failed.ensures.gives c.fail_input.ensures
