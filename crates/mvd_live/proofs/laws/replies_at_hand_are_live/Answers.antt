use Rattle.mvd_live.proofs.AtHand.{live_at_hand, none_at_hand}
use Rattle.mvd_live.proofs.laws.replies_at_hand_are_live.Goals as goal

pub returns : goal.returns
returns c = record {
  answered = λ window near config. live_at_hand config window near;
  unasked = none_at_hand;
}
