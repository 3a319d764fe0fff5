use Rattle.std.specs.Prelude.{◌≡◌}
use Rattle.mvd_meet.specs.Callers.{came_at}
use Rattle.mvd_server.specs.PeerLinks.{MovesBytes}
use Rattle.mvd_server.proofs.peer_link.PeerLink.write.Given as goal

abbrev pub invariant-loop-turn : goal.invariant-loop-turn
invariant-loop-turn l = record {
  moves : MovesBytes l.fn.self.far l.self.far;
  came : came_at l.self.far ≡ came_at l.fn.self.far;
  stage : l.self.stage ≡ l.fn.self.stage;
}
