use Rattle.std.specs.Prelude.{◌≡◌}
use Rattle.mvd_server.proofs.server.Server.wait.Given as goal

-- the clients' connections stay as they were
abbrev pub invariant-loop-event : goal.invariant-loop-event
invariant-loop-event g l = l.self.1.1.1.1.1.1.0.talks ≡ l.fn.self.crowd.talks
