use Rattle.std.proofs.Common.{append_assoc}
use Rattle.mvd_wire.specs.Requests.{push}
use Rattle.mvd_wire.proofs.Spellings.{codec_is}
use Rattle.mvd_frames.proofs.sending.write_push.Goals as goal

pub returns-clause-bytes : goal.returns-clause-bytes
unfolding push
returns-clause-bytes c = rw (c.in_ok-write_state.ensures, c.in_ok-write_key.ensures.bytes, codec_is c.args.state.now) (simp append_assoc)
