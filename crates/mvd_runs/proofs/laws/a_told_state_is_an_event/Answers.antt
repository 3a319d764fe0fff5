use Rattle.mvd_runs.proofs.Telling.{tells_question, tells_state}
use Rattle.mvd_runs.proofs.laws.a_told_state_is_an_event.Goals as goal

pub returns : goal.returns
returns c = record {
  state = λ a i site key is whole. tells_state a i site key is whole;
  question = λ a i site request told is whole asks tells. tells_question a i site request told is whole asks tells;
}
