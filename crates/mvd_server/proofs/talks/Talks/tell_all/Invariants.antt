use Rattle.std.proofs.Common.{length}
use Rattle.mvd_server.specs.Replied.{KeepsReplies}
use Rattle.mvd_server.specs.Talking.{TalksDeeds}
use Rattle.mvd_server.proofs.talks.Talks.tell_all.Given as goal

abbrev pub invariant-telling : goal.invariant-telling
invariant-telling l = record { deeds : TalksDeeds l.initial.self l.self; heard : KeepsReplies l.initial.self l.self }

abbrev pub decreases-telling : goal.decreases-telling
decreases-telling l = length l.self.hand.left
