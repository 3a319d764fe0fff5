use Rattle.std.proofs.Common.{append_assoc}
use Rattle.mvd_wire.specs.Requests.{bucket}
use Rattle.mvd_wire.proofs.RowFits.{path_fits}
use Rattle.mvd_frames.proofs.sending_keys.write_bucket.Goals as goal

pub returns-clause-fits : goal.returns-clause-fits
unfolding bucket
returns-clause-fits c = (path_fits c.args.path.now c.write_path.ensures.path, c.in_ok-write_optional.ensures.fits)

pub returns-clause-bytes : goal.returns-clause-bytes
unfolding bucket
returns-clause-bytes c = rw (c.in_ok-write_optional.ensures.bytes, c.in_ok-write_path.ensures.bytes) (simp append_assoc)
