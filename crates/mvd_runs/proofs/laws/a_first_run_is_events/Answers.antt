use Rattle.mvd_runs.proofs.NewFiles.{new_file}
use Rattle.mvd_runs.proofs.laws.a_first_run_is_events.Goals as goal

pub returns : goal.returns
returns c = λ a i image empties nothing. new_file a i image empties nothing
