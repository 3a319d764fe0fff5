use Rattle.mvd_world.proofs.Cutting.{acts_cut, acts_quiet}
use Rattle.mvd_world.proofs.laws.sessions_in_windows_are_steps.Goals as goal

pub returns-clause-cut : goal.returns-clause-cut
returns-clause-cut c = λ setting before end acts cames runs.
    let x = acts_cut setting before acts cames end runs in
    (x.steps, x.outcomes, x.cut, x.runs)

pub returns-clause-quiet : goal.returns-clause-quiet
returns-clause-quiet c = λ setting before end acts cames runs quiet. acts_quiet setting before acts cames end runs quiet
