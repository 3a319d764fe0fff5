use Rattle.std.proofs.Common.{length, zip}
use Rattle.mvd_host.proofs.ToldLemmas.{Queueing}
use Rattle.mvd_host.proofs.queueing.queue_replies.Given as goal

abbrev pub invariant-queueing : goal.invariant-queueing
invariant-queueing l = record { queued : Queueing (zip l.initial.asked l.initial.replies) (zip l.asked l.replies) l.initial.clients.entries l.clients.entries }

abbrev pub decreases-queueing : goal.decreases-queueing
decreases-queueing l = length l.asked
