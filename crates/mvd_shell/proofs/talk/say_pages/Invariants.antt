use Rattle.std.specs.Prelude.{string_bytes}
use Rattle.mvd_shell.proofs.Talking.{SoFar}
use Rattle.mvd_shell.proofs.talk.say_pages.Given as goal

-- the pages that were told, and what was printed of them
abbrev pub invariant-loop : goal.invariant-loop
invariant-loop g l = SoFar g.A.Endpoint.answers l.fn.asked l.asked l.fn.ask l.fn.request l.request (string_bytes l.fn.out) (string_bytes l.out)
