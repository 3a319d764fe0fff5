use Rattle.mvd_world.proofs.Asking.{sent_in_world}
use Rattle.mvd_world.proofs.windows.Tuple2KeyKeyStateQuestion.ask.Goals as goal

pub returns : goal.returns
returns c setting before world sent =
    let was = sent.0 in
    let m = c.take.ensures was.0 (sent_in_world c.args.world.now before was.0 c.args.self world.messages was.1) setting before world in
    (m.0, ((was.0, c.take.result, was.1, m.1.0, c.push_in.ensures), m.1.1))
