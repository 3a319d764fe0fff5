use Rattle.std.proofs.Common.{ap₂, zip, ℕ, List}
use Rattle.mvd_wire.specs.declared.reply.Reply.{Reply}
use Rattle.mvd_host.proofs.ToldLemmas.{begins, goes_on}
use Rattle.mvd_host.proofs.queueing.queue_replies.Goals as goal

pub queueing-init : goal.queueing-init
queueing-init c = record { queued = begins (zip c.args.asked.now c.args.replies.now) c.args.clients.now.entries c.requires.due c.requires.fits }

pub queueing-preserved : goal.queueing-preserved
queueing-preserved c = record {
  queued = goes_on (zip c.args.asked.now c.args.replies.now) (zip c.queueing.asked.now c.queueing.replies.now) (zip c.in-Some.later.now c.in-Some-split_first.others.now) c.in-Some.client.now c.in-Some-split_first.reply.now
      c.args.clients.now.entries c.queueing.clients.entries c.queue.new.clients.entries
      (ap₂ (λ (a : List ℕ) (b : List Reply). zip a b) c.in-Some.ensures.cases.0 c.in-Some-split_first.ensures.cases.0) c.queueing.invariant.queued c.queue.ensures.queues;
}
