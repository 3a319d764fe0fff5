use Rattle.mvd_runs.proofs.PushTurns.{state_pushed}
use Rattle.mvd_runs.proofs.laws.a_push_is_a_turn.Goals as goal

pub returns : goal.returns
returns g c = λ old new key pushed result it. state_pushed old new key pushed result it
