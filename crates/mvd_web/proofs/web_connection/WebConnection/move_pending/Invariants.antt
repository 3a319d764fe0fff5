use Rattle.std.proofs.Common.{length}
use Rattle.http_server.specs.Connection.{history}
use Rattle.mvd_web.specs.Inside.{web_of}
use Rattle.mvd_web.specs.Steps.{StepsOn}
use Rattle.mvd_web.proofs.web_connection.WebConnection.move_pending.Given as goal

abbrev pub invariant-loop-self : goal.invariant-loop-self
invariant-loop-self l = StepsOn (web_of l.initial.self) (web_of l.self)

abbrev pub decreases-loop-self : goal.decreases-loop-self
decreases-loop-self l = length (history l.self.parser).pending
