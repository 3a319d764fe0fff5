use Rattle.std.specs.Prelude.{◌≡◌}
use Rattle.mvd_server.specs.PeerSays.{PeersSay, said_by_all}
use Rattle.mvd_server.specs.Replied.{HearsAll}
use Rattle.mvd_server.specs.Talking.{TalksDeeds}
use Rattle.mvd_server.proofs.peer_list.Peers.hear_all.Given as goal

-- the first replies are heard
abbrev pub invariant-loop-client : goal.invariant-loop-client
invariant-loop-client l = record {
  hears : HearsAll l.yielded l.fn.self.list.items l.self.list.items;
  rest : l.self ≡ record l.fn.self { list = l.self.list; few = l.self.few };
  deeds : TalksDeeds l.fn.crowd.talks l.crowd.talks;
  says : PeersSay (said_by_all l.fn.self.list.items l.fn.self.setting l.fn.crowd) (said_by_all l.self.list.items l.self.setting l.crowd);
}
