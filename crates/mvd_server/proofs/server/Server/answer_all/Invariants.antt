use Rattle.mvd_server.specs.Rounds.{AnswersClients}
use Rattle.mvd_server.proofs.server.Server.answer_all.Given as goal

-- all that was done so far are rounds
abbrev pub invariant-loop-round : goal.invariant-loop-round
invariant-loop-round g l = AnswersClients l.initial.self.crowd.talks l.initial.replica l.self.crowd.talks l.replica
