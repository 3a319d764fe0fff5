use Rattle.std.proofs.Common.{take}
use Rattle.mvd_server.specs.Talking.{AreOfSession}
use Rattle.mvd_server.proofs.talks.own.are_of_session.Given as goal

abbrev pub invariant-loop-request : goal.invariant-loop-request
invariant-loop-request l = AreOfSession (take l.request-index l.requests)
