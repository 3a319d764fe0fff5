use Rattle.std.specs.Prelude.{◌≤◌, ◌+◌}
use Rattle.mvd_server.specs.Peerings.{places_taken}
use Rattle.mvd_server.specs.PeerSays.{PeersSay, said_by_all}
use Rattle.mvd_server.specs.Talking.{TalksDeeds}
use Rattle.mvd_server.proofs.peer_list.Peers.go_on.Given as goal

abbrev pub invariant-loop-turn : goal.invariant-loop-turn
invariant-loop-turn g l = record {
  few : places_taken l.self.list.items + l.free ≤ 4;
  deeds : TalksDeeds l.fn.crowd.talks l.crowd.talks;
  says : PeersSay (said_by_all l.fn.self.list.items l.fn.self.setting l.fn.crowd) (said_by_all l.self.list.items l.self.setting l.crowd);
}
