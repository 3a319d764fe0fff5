use Rattle.mvd_world.proofs.windows.PathQuestion.ask.Goals as goal

pub returns : goal.returns
returns c setting before world sent =
    let m = c.step.ensures.machine setting before world in
    (m.0, ((c.step.result, m.1.0, c.node_in.ensures), m.1.1))
