use Rattle.std.proofs.Common.{length}
use Rattle.mvd_host.specs.Queueing.{refused_all}
use Rattle.mvd_host.proofs.ToldLemmas.{Queueing}
use Rattle.mvd_host.proofs.queueing.queue_refused.Given as goal

abbrev pub invariant-queueing : goal.invariant-queueing
invariant-queueing l = record { queued : Queueing (refused_all l.initial.asked l.refusal) (refused_all l.asked l.refusal) l.initial.clients.entries l.clients.entries }

abbrev pub decreases-queueing : goal.decreases-queueing
decreases-queueing l = length l.asked
