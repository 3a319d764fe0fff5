use Rattle.std.proofs.Common.{append_assoc}
use Rattle.mvd_wire.specs.Requests.{rows_of_view_codec}
use Rattle.mvd_wire.proofs.RowFits.{view_name_fits}
use Rattle.mvd_frames.proofs.sending.write_rows_asked.Goals as goal

pub returns-clause-fits : goal.returns-clause-fits
unfolding rows_of_view_codec
returns-clause-fits c = (view_name_fits c.args.name.now c.write_view_name.ensures.name, c.in_ok-write_optional.ensures.fits)

pub returns-clause-bytes : goal.returns-clause-bytes
unfolding rows_of_view_codec
returns-clause-bytes c = rw (c.in_ok-write_optional.ensures.bytes, c.in_ok-write_view_name.ensures.bytes) (simp append_assoc)
