use Rattle.std.proofs.Common.{append_assoc}
use Rattle.mvd_wire.specs.Requests.{keys_of_prefix}
use Rattle.mvd_frames.proofs.sending_keys.write_keys_asked.Goals as goal

pub returns-clause-fits : goal.returns-clause-fits
unfolding keys_of_prefix
returns-clause-fits c = (c.write_prefix.ensures.fits, c.in_ok-write_optional.ensures.fits)

pub returns-clause-bytes : goal.returns-clause-bytes
unfolding keys_of_prefix
returns-clause-bytes c = rw (c.in_ok-write_optional.ensures.bytes, c.in_ok-write_prefix.ensures.bytes) (simp append_assoc)
