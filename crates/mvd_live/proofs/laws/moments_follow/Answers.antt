use Rattle.mvd_live.specs.Told.{TellsPush}
use Rattle.mvd_peer.proofs.Telling.{each_joined}
use Rattle.mvd_live.proofs.Quiet.{tells_rise}
use Rattle.mvd_live.proofs.laws.moments_follow.Goals as goal

pub returns : goal.returns
returns c = record { joined = λ most. each_joined (TellsPush most); rise = tells_rise }
