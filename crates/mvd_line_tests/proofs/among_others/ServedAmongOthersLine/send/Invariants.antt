use Rattle.std.specs.Prelude.{◌≡◌, List}
use Rattle.mvd_wire.specs.declared.request.Request.{Request}
use Rattle.mvd_remote.specs.Lines.{AreRequestFrames}
use Rattle.mvd_line_tests.proofs.Among.{Waits}
use Rattle.mvd_line_tests.proofs.among_others.ServedAmongOthersLine.send.Given as goal

-- so many of the requests wait
abbrev pub invariant-loop-turn : goal.invariant-loop-turn
invariant-loop-turn l = record {
  site : l.self.site ≡ l.fn.self.site;
  waits : (requests : List Request) → AreRequestFrames requests l.frames → Waits l.fn.self.waiting.items l.self.waiting.items requests l.rest;
}
