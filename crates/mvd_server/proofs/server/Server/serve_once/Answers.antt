use Rattle.mvd_server.specs.Talking.{talking_of}
use Rattle.mvd_server.specs.Wires.{wired_of}
use Rattle.mvd_server.proofs.Asking.{passes_in, passes_out}
use Rattle.mvd_server.proofs.Deeds.{carries_none, deeds_on}
use Rattle.mvd_server.proofs.Rounds.{goes_in}
use Rattle.mvd_server.proofs.server.Server.serve_once.Goals as goal

pub returns-in_err-wait-clause-goes : goal.returns-in_err-wait-clause-goes
returns-in_err-wait-clause-goes g c = goes_in g.K.Sockets c.args.self.now.crowd.talks c.wait.new.self.crowd.talks c.wait.new.self.crowd.talks c.args.sockets.now c.args.sockets.now c.args.replica.now c.wait.ensures.talks (carries_none g.K.Sockets (wired_of c.wait.new.self.crowd.talks c.args.sockets.now))

pub returns-in_err-take_in-clause-goes : goal.returns-in_err-take_in-clause-goes
returns-in_err-take_in-clause-goes g c = goes_in g.K.Sockets c.args.self.now.crowd.talks c.wait.new.self.crowd.talks c.take_in.new.self.crowd.talks c.args.sockets.now c.take_in.new.sockets c.args.replica.now c.wait.ensures.talks c.take_in.ensures

pub returns-in_err-give_out-clause-goes : goal.returns-in_err-give_out-clause-goes
returns-in_err-give_out-clause-goes g c =
    let k = g.K.Sockets in
    let t = c.args.self.now.crowd.talks in
    let s = c.args.sockets.now in
    let old = c.args.replica.now in
    let asked = c.answer_asking.new.self.crowd.talks in
    let s' = c.answer_asking.new.sockets in
    let now = c.answer_asking.new.replica in
    passes_out k (wired_of t s) asked c.answer.new.self.crowd.talks c.wake.new.crowd.talks c.give_out.new.self.crowd.talks s' c.give_out.new.sockets old now c.answer.new.replica
    (passes_in k t c.wait.new.self.crowd.talks c.take_in.new.self.crowd.talks c.go_on.new.crowd.talks asked s c.take_in.new.sockets s' old now c.wait.ensures.talks c.take_in.ensures
    (deeds_on (talking_of c.take_in.new.self.crowd.talks) (talking_of c.rotate.new.self.crowd.talks) (talking_of c.go_on.new.crowd.talks) c.rotate.ensures c.go_on.ensures.deeds) c.answer_asking.ensures) c.answer.ensures c.wake.ensures c.give_out.ensures.carries

pub returns-clause-goes : goal.returns-clause-goes
returns-clause-goes g c =
    let k = g.K.Sockets in
    let t = c.args.self.now.crowd.talks in
    let s = c.args.sockets.now in
    let old = c.args.replica.now in
    let asked = c.answer_asking.new.self.crowd.talks in
    let s' = c.answer_asking.new.sockets in
    let now = c.answer_asking.new.replica in
    passes_out k (wired_of t s) asked c.answer.new.self.crowd.talks c.wake.new.crowd.talks c.give_out.new.self.crowd.talks s' c.give_out.new.sockets old now c.answer.new.replica
    (passes_in k t c.wait.new.self.crowd.talks c.take_in.new.self.crowd.talks c.go_on.new.crowd.talks asked s c.take_in.new.sockets s' old now c.wait.ensures.talks c.take_in.ensures
    (deeds_on (talking_of c.take_in.new.self.crowd.talks) (talking_of c.rotate.new.self.crowd.talks) (talking_of c.go_on.new.crowd.talks) c.rotate.ensures c.go_on.ensures.deeds) c.answer_asking.ensures) c.answer.ensures c.wake.ensures c.give_out.ensures.carries
