use Rattle.std.proofs.Common.{ap, refl, ℕ, List}
use Rattle.mvd_wire.specs.declared.reply.Reply.TheVariants.{Refused}
use Rattle.mvd_wire.proofs.SentFrames.{short_can_be_sent}
use Rattle.mvd_host.specs.Queueing.{refused_all}
use Rattle.mvd_host.proofs.ToldLemmas.{begins, goes_on, refusals_fit}
use Rattle.mvd_host.proofs.queueing.queue_refused.Goals as goal

pub queueing-init : goal.queueing-init
queueing-init c = record { queued = begins (refused_all c.args.asked.now c.args.refusal) c.args.clients.now.entries c.requires.due (refusals_fit (λ (n : ℕ). (n, Refused c.args.refusal)) c.args.asked.now (λ n. short_can_be_sent (Refused c.args.refusal) refl)) }

pub queueing-preserved : goal.queueing-preserved
queueing-preserved c = record {
  queued = goes_on (refused_all c.args.asked.now c.args.refusal) (refused_all c.queueing.asked.now c.args.refusal) (refused_all c.in-Some.later.now c.args.refusal) c.in-Some.client.now (Refused c.args.refusal)
      c.args.clients.now.entries c.queueing.clients.entries c.queue.new.clients.entries (ap (λ (l : List ℕ). refused_all l c.args.refusal) c.in-Some.ensures.cases.0) c.queueing.invariant.queued c.queue.ensures.queues;
}
