use Rattle.mvd_server.proofs.Replying.{OthersBelow}
use Rattle.mvd_server.proofs.peer_list.Peers.place_of.Given as goal

-- those that were looked at have other numbers
abbrev pub invariant-loop-place : goal.invariant-loop-place
invariant-loop-place l = OthersBelow l.client l.place l.self.list.items
