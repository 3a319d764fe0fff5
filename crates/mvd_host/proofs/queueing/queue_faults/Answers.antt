use Rattle.std.proofs.Common.{ap, refl, ℕ}
use Rattle.mvd_dots.specs.declared.refusals.Refusal.{Refusal}
use Rattle.mvd_wire.specs.declared.reply.Reply.TheVariants.{Refused}
use Rattle.mvd_wire.proofs.SentFrames.{short_can_be_sent}
use Rattle.mvd_host.specs.Queueing.{refused_faults}
use Rattle.mvd_host.proofs.ToldLemmas.{begins, goes_on, refusals_fit}
use Rattle.mvd_host.proofs.queueing.queue_faults.Goals as goal

pub queueing-init : goal.queueing-init
queueing-init c = record { queued = begins (refused_faults c.args.faults.now) c.args.clients.now.entries c.requires.due (refusals_fit (λ (e : ℕ × Refusal). (e.0, Refused e.1)) c.args.faults.now (λ e. short_can_be_sent (Refused e.1) refl)) }

pub queueing-preserved : goal.queueing-preserved
queueing-preserved c = record {
  queued = goes_on (refused_faults c.args.faults.now) (refused_faults c.queueing.faults.now) (refused_faults c.in-Some.later.now) c.in-Some.fault.now.0 (Refused c.in-Some.fault.now.1)
      c.args.clients.now.entries c.queueing.clients.entries c.queue.new.clients.entries (ap refused_faults c.in-Some.ensures.cases.0) c.queueing.invariant.queued c.queue.ensures.queues;
}
