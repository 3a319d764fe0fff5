use Rattle.mvd_peer.specs.PeerSides.{sides_of}
use Rattle.mvd_live.proofs.Over.{lives_over}
use Rattle.mvd_live.proofs.laws.a_session_of_live_sides_lives.Goals as goal

pub returns : goal.returns
returns g c = λ questions old new report run live live'. lives_over (sides_of g.L.Peer g.P.Peer) g.met.L.Peer.live_form g.met.P.Peer.live_form g.met.L.Peer.most_stays g.met.P.Peer.most_stays questions old new report run live live'
