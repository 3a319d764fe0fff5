use Rattle.mvd_model.proofs.Runs.{promised}
use Rattle.mvd_runs.proofs.Filing.{chained, chained_new}
use Rattle.mvd_runs.proofs.laws.a_file_keeps_the_promise.Goals as goal

pub returns : goal.returns
returns c = record {
  kept = λ i image a runs file are.
      let it = chained i image a runs file are in
      (it, promised a it.events it.end it.happen);
  begun = λ i image a run runs file are.
      let it = chained_new i image a run runs file are in
      (it, promised a it.events it.end it.happen);
}
