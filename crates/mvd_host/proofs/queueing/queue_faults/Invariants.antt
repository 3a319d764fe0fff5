use Rattle.std.proofs.Common.{length}
use Rattle.mvd_host.specs.Queueing.{refused_faults}
use Rattle.mvd_host.proofs.ToldLemmas.{Queueing}
use Rattle.mvd_host.proofs.queueing.queue_faults.Given as goal

abbrev pub invariant-queueing : goal.invariant-queueing
invariant-queueing l = record { queued : Queueing (refused_faults l.initial.faults) (refused_faults l.faults) l.initial.clients.entries l.clients.entries }

abbrev pub decreases-queueing : goal.decreases-queueing
decreases-queueing l = length l.faults
