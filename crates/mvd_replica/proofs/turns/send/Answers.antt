use Rattle.std.proofs.Common.{◌≡◌, ◌∙◌, inr, refl, ap}
use Rattle.mvd_dots.specs.declared.refusals.Refusal.TheVariants.{Memory}
use Rattle.mvd_wire.specs.declared.reply.Reply.TheVariants.{Refused}
use Rattle.mvd_wire.specs.Replies.{reply_bytes, reply_frame}
use Rattle.mvd_replica.proofs.Memories.{must_be_memory}
use Rattle.mvd_replica.proofs.Ending.{goes_out}
use Rattle.mvd_replica.proofs.turns.send.Goals as goal

pub returns-in-Err : goal.returns-in-Err
returns-in-Err g c =
    let memory : c.in-Err.refusal ≡ Memory = must_be_memory c.in-Err.refusal (reply_bytes c.args.reply.now) (reply_frame c.args.reply.now) c.requires c.in-Err.ensures.exact in (
      Refused Memory,
      inr (c.in_default.ensures, refl),
      goes_out _ _ c.bytes-in-Err.result.now (reply_bytes (Refused Memory)) c.write_frame-in-Err.result
          (c.bytes-in-Err.ensures ∙ c.refused.ensures ∙ ap (λ r. reply_bytes (Refused r)) memory)
          c.write_frame-in-Err.ensures.ok c.write_frame-in-Err.ensures.front c.write_frame-in-Err.ensures.err,
    )
