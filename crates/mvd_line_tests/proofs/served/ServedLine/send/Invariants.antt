use Rattle.std.specs.Prelude.{◌≡◌, List}
use Rattle.mvd_site.specs.Held.{AreHeld}
use Rattle.mvd_wire.specs.declared.request.Request.{Request}
use Rattle.mvd_remote.specs.Lines.{AreRequestFrames}
use Rattle.mvd_line_tests.specs.Serving.{far_at}
use Rattle.mvd_line_tests.proofs.Serving.{Went}
use Rattle.mvd_line_tests.proofs.served.ServedLine.send.Given as goal

-- so many of the requests were taken
abbrev pub invariant-loop-turn : goal.invariant-loop-turn
invariant-loop-turn l = record {
  config : l.self.site.config ≡ l.fn.self.site.config;
  held : AreHeld l.fn.self.site.states → AreHeld l.self.site.states;
  went : (requests : List Request) → AreRequestFrames requests l.frames → Went (far_at l.fn.self.site l.fn.self.waiting.items) (far_at l.self.site l.self.waiting.items) requests l.rest;
}
