use Rattle.mvd_server.specs.Talking.{TalksDeeds}
use Rattle.mvd_server.proofs.clientele.Clientele.end_idle.Given as goal

abbrev pub invariant-loop : goal.invariant-loop
invariant-loop g l = TalksDeeds l.initial.crowd.talks l.crowd.talks
