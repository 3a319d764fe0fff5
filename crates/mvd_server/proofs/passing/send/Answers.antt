use Rattle.std.proofs.Common.{refl, subst, sym, take, ◌∙◌, ◌≤◌, length, List, ℕ}
use Rattle.mvd_server.specs.Talking.{talking_of}
use Rattle.mvd_server.specs.Wires.{GivesOut, waits_for, wired_of}
use Rattle.mvd_server.proofs.Deeds.{carries_deeds, carries_on, carries_out}
use Rattle.mvd_server.proofs.Wiring.{carries_still, carries_stop, gives_out}
use Rattle.mvd_server.proofs.passing.send.Goals as goal

pub returns-in-Bytes : goal.returns-in-Bytes
returns-in-Bytes g c =
    let n = c.number-number.result in
    let old = talking_of c.args.talks.now in
    let new = talking_of c.sent.new.self in
    let count = c.in-Bytes.count in
    let within = subst (λ (l : List ℕ). count ≤ length l) c.waiting-bytes.ensures c.in-Bytes.ensures.takes.0 in
    let took = subst (λ (l : List ℕ). g.K.Sockets.took c.args.sockets.now (g.K.Sockets.number_of c.args.client.now.socket) (take count l) c.write.new.sockets) c.waiting-bytes.ensures c.in-Bytes.ensures.takes.1 in
    let gives = gives_out n count old new within c.sent.ensures in
    carries_out g.K.Sockets (g.K.Sockets.number_of c.args.client.now.socket) _ old new c.args.sockets.now c.write.new.sockets took (subst (λ (i : ℕ). GivesOut i (take count (waits_for n old)) old new) c.number-number.ensures gives)

pub returns-in-Nothing : goal.returns-in-Nothing
returns-in-Nothing g c = carries_still g.K.Sockets (talking_of c.args.talks.now) c.args.sockets.now c.write.new.sockets c.in-Nothing.ensures.takes

pub returns-in-End : goal.returns-in-End
returns-in-End g c =
    let old = talking_of c.args.talks.now in
    let new = talking_of c.fail_output.new.self in
    carries_on g.K.Sockets (wired_of c.args.talks.now c.args.sockets.now) (wired_of c.args.talks.now c.write.new.sockets) (wired_of c.fail_output.new.self c.write.new.sockets)
    (carries_stop g.K.Sockets (g.K.Sockets.number_of c.args.client.now.socket) old c.args.sockets.now c.write.new.sockets c.in-End.ensures.takes)
    (carries_deeds g.K.Sockets old new c.write.new.sockets c.write.new.sockets refl c.fail_output.ensures)

pub returns-in-Failed : goal.returns-in-Failed
returns-in-Failed g c =
    carries_deeds g.K.Sockets (talking_of c.args.talks.now) (talking_of c.fail_output-in-Failed.new.self) c.args.sockets.now c.write.new.sockets c.in-Failed.ensures.takes c.fail_output-in-Failed.ensures
