use Rattle.std.proofs.Common.{append_assoc}
use Rattle.mvd_wire.specs.Rows.{spot_codec}
use Rattle.mvd_wire.proofs.RowFits.{spot_fits}
use Rattle.mvd_frames.proofs.row_writing.write_spot.Goals as goal

pub returns-clause-fits : goal.returns-clause-fits
returns-clause-fits c = spot_fits c.args.key.now c.args.dot c.write_key.ensures.key c.write_dot.ensures.valid

pub returns-clause-bytes : goal.returns-clause-bytes
unfolding spot_codec
returns-clause-bytes c = rw (c.in_ok-write_dot.ensures.bytes, c.in_ok-write_key.ensures.bytes) (simp append_assoc)
