use Rattle.mvd_server.specs.Talking.{TalksDeeds}
use Rattle.mvd_server.proofs.talks.Talks.end_waits.Given as goal

abbrev pub invariant-loop : goal.invariant-loop
invariant-loop l = TalksDeeds l.initial.self l.self
