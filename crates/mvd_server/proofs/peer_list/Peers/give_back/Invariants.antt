use Rattle.std.specs.Prelude.{◌≤◌}
use Rattle.mvd_server.specs.Peerings.{places_taken}
use Rattle.mvd_server.specs.PeerSays.{PeersSay}
use Rattle.mvd_server.specs.declared.crowd.Crowd.{Crowd}
use Rattle.mvd_server.proofs.Placing.{LentBelow}
use Rattle.mvd_server.proofs.peer_list.Peers.give_back.Given as goal

-- no place was taken, and those that were looked at keep none past its loan
abbrev pub invariant-loop-peering : goal.invariant-loop-peering
invariant-loop-peering l = record {
  few : places_taken l.peering-items ≤ 4;
  lent : LentBelow l.waits l.now l.peering-index l.peering-items;
  says : (crowd : Crowd) → PeersSay (record { list = l.fn.self.list.items; setting = l.fn.self.setting; crowd = crowd }) (record { list = l.peering-items; setting = l.fn.self.setting; crowd = crowd });
}
