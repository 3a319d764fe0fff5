use Rattle.std.proofs.Common.{append_assoc}
use Rattle.mvd_wire.specs.Rows.{place}
use Rattle.mvd_frames.proofs.row_writing.write_place.Goals as goal

pub returns-clause-bytes : goal.returns-clause-bytes
unfolding place
returns-clause-bytes c = rw (c.in_ok-write_spot.ensures.bytes, c.in_ok-write_term.ensures.bytes) (simp append_assoc)

pub returns-clause-fits : goal.returns-clause-fits
unfolding place
returns-clause-fits c = (c.in_ok-write_term.ensures.fits, c.in_ok-write_spot.ensures.fits)
