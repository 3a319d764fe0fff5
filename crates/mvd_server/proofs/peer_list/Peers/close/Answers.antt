use Rattle.std.proofs.Common.{inl, inr, refl}
use Rattle.mvd_server.proofs.PeerTelling.{all_close}
use Rattle.mvd_server.proofs.peer_list.Peers.close.Goals as goal

pub returns-then-free-eq-SESSIONS_MAX : goal.returns-then-free-eq-SESSIONS_MAX
returns-then-free-eq-SESSIONS_MAX c = record { says = λ crowd. all_close _ _ (inr c.clear.ensures.items) refl }

pub returns-else-self-now : goal.returns-else-self-now
returns-else-self-now c = record { says = λ crowd. all_close _ _ (inl refl) refl }
