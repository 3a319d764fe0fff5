use Rattle.mvd_peer.proofs.Growths.{has_given, has_met, has_pushed, is_spared}
use Rattle.mvd_peer.proofs.laws.what_is_met_is_had.Goals as goal

pub returns : goal.returns
returns c = record { met = has_met; pushed = has_pushed; given = has_given; spared = is_spared }
