use Rattle.std.proofs.Common.{append_assoc}
use Rattle.mvd_wire.specs.Requests.{put}
use Rattle.mvd_wire.proofs.SentFrames.{put_fits}
use Rattle.mvd_frames.proofs.sending.write_put.Goals as goal

pub returns-clause-fits : goal.returns-clause-fits
returns-clause-fits c = put_fits c.args.key.now c.args.context.now c.args.document.now c.write_key.ensures.key c.write_context.ensures.in_range c.write_document.ensures.document c.write_document.ensures.short

pub returns-clause-bytes : goal.returns-clause-bytes
unfolding put
returns-clause-bytes c = rw (c.in_ok-write_document.ensures.bytes, c.in_ok-write_context.ensures.bytes, c.in_ok-write_key.ensures.bytes) (simp append_assoc)
