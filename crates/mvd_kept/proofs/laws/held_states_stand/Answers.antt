use Rattle.mvd_kept.proofs.Opened.{stands_held}
use Rattle.mvd_kept.proofs.laws.held_states_stand.Goals as goal

pub returns : goal.returns
returns c = λ states kept. stands_held states kept
