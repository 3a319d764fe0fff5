use Rattle.std.proofs.Common.{◌∙◌, refl, sym}
use Rattle.mvd_replica.proofs.Memories.{must_be_memory}
use Rattle.mvd_replica.proofs.ReplicaLemmas.{push_answered, push_broken, push_unmade}
use Rattle.mvd_replica.proofs.replica.Replica.push.Goals as goal

pub returns-then-is_broken : goal.returns-then-is_broken
returns-then-is_broken g c = push_broken c.args.self.now c.args.key.now c.args.pushed.now (sym c.is_broken.ensures ∙ c.if-is_broken.true)

pub returns-in-Err : goal.returns-in-Err
returns-in-Err g c =
    push_unmade c.args.self.now c.args.key.now c.args.pushed.now c.in-Err.refusal (sym c.is_broken.ensures ∙ c.if-is_broken.false) (must_be_memory c.in-Err.refusal _ _ refl c.in-Err.ensures)

pub returns : goal.returns
returns g c =
    push_answered c.args.self.now c.answer-reply.new.self c.args.key.now c.args.pushed.now c.in-Ok.request c.answer-reply.result c.accepted.result
    (sym c.is_broken.ensures ∙ c.if-is_broken.false) c.context-seen.ensures.valid c.in-Ok.ensures c.accepted.ensures.accepts c.answer-reply.ensures
