use Rattle.mvd_replica.specs.Replicas.{site_of}
use Rattle.mvd_server.specs.Talking.{TalksAt}
use Rattle.mvd_server.proofs.talks.Talks.round.Given as goal

abbrev pub invariant-loop-number : goal.invariant-loop-number
invariant-loop-number g l = TalksAt (site_of l.replica) l.initial.self l.self
