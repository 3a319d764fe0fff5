use Rattle.std.specs.Prelude.{◌≤◌}
use Rattle.mvd_server.specs.Peerings.{places_taken}
use Rattle.mvd_server.specs.PeerSays.{PeersSay}
use Rattle.mvd_server.specs.Talking.{TalksDeeds}
use Rattle.mvd_server.proofs.peer_list.Peers.hand_on.Given as goal

-- no place was taken
abbrev pub invariant-loop-peering : goal.invariant-loop-peering
invariant-loop-peering l = record {
  few : places_taken l.peering-items ≤ 4;
  deeds : TalksDeeds l.fn.crowd.talks l.crowd.talks;
  says : PeersSay (record { list = l.fn.self.list.items; setting = l.fn.self.setting; crowd = l.fn.crowd }) (record { list = l.peering-items; setting = l.fn.self.setting; crowd = l.crowd });
}
