use Rattle.mvd_server.specs.PeerSays.{PeerSays, said_by}
use Rattle.mvd_server.specs.Peerings.{TakesFree}
use Rattle.mvd_server.specs.Talking.{TalksDeeds}
use Rattle.mvd_server.proofs.peering.Peering.go_on.Given as goal

abbrev pub invariant-loop-turn : goal.invariant-loop-turn
invariant-loop-turn l = record {
  free : TakesFree l.fn.self l.fn.free l.self l.free;
  deeds : TalksDeeds l.fn.crowd.talks l.crowd.talks;
  says : PeerSays (said_by l.fn.self l.fn.setting l.fn.crowd) (said_by l.self l.setting l.crowd);
}
