use Rattle.std.proofs.Common.{append_assoc}
use Rattle.mvd_wire.specs.Requests.{delete}
use Rattle.mvd_wire.proofs.SentFrames.{delete_fits}
use Rattle.mvd_frames.proofs.sending.write_delete.Goals as goal

pub returns-clause-fits : goal.returns-clause-fits
returns-clause-fits c = delete_fits c.args.key.now c.args.context.now c.write_key.ensures.key c.write_context.ensures.in_range

pub returns-clause-bytes : goal.returns-clause-bytes
unfolding delete
returns-clause-bytes c = rw (c.in_ok-write_context.ensures.bytes, c.in_ok-write_key.ensures.bytes) (simp append_assoc)
