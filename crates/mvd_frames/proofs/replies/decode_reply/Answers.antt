use Rattle.std.proofs.Common.{arith}
use Rattle.mvd_frames.proofs.ReplyLaws.{reply_found, reply_only}
use Rattle.mvd_frames.proofs.replies.decode_reply.Goals as goal

pub returns-clause-found : goal.returns-clause-found
returns-clause-found c = reply_found c.args.kind c.args.payload.now (λ i. omega (arith, c.type_inv.payload i)) c.reply_at.result c.reply_at.ensures

pub returns-clause-only : goal.returns-clause-only
returns-clause-only c = reply_only c.args.kind c.args.payload.now c.reply_at.result c.reply_at.ensures
