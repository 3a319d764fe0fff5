use Rattle.mvd_web.specs.Inside.{web_of}
use Rattle.mvd_web.proofs.Feeding.{Feeding}
use Rattle.mvd_web.proofs.web_connection.WebConnection.feed.Given as goal

-- what was read so far is a front of what came
abbrev pub invariant-loop-piece : goal.invariant-loop-piece
invariant-loop-piece l = Feeding (web_of l.fn.self) l.bytes l.rest l._piece (web_of l.self)
