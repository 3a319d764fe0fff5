use Rattle.std.specs.Prelude.{◌≤◌}
use Rattle.mvd_server.specs.Peerings.{places_taken}
use Rattle.mvd_server.proofs.Hearing.{HeardBelow}
use Rattle.mvd_server.proofs.Replying.{EndedBelow}
use Rattle.mvd_server.specs.PeerSays.{PeersSay}
use Rattle.mvd_server.specs.Talking.{TalksDeeds}
use Rattle.mvd_server.proofs.peer_list.Peers.note_commits.Given as goal

-- no place was taken; those that had their turn heard of it, if something changed, and ended, if they had to
abbrev pub invariant-loop-peering : goal.invariant-loop-peering
invariant-loop-peering l = record {
  few : places_taken l.peering-items ≤ 4;
  heard : HeardBelow l.changed l.peering-index l.peering-items;
  lost : EndedBelow l.has_lost l.peering-index l.fn.self.list.items l.peering-items;
  deeds : TalksDeeds l.fn.crowd.talks l.crowd.talks;
  says : PeersSay (record { list = l.fn.self.list.items; setting = l.fn.self.setting; crowd = l.fn.crowd }) (record { list = l.peering-items; setting = l.fn.self.setting; crowd = l.crowd });
}
