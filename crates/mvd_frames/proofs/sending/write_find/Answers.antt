use Rattle.std.proofs.Common.{append_assoc}
use Rattle.mvd_wire.specs.Requests.{find_codec}
use Rattle.mvd_wire.proofs.RowFits.{field_fits}
use Rattle.mvd_frames.proofs.sending.write_find.Goals as goal

pub returns-clause-fits : goal.returns-clause-fits
unfolding find_codec
returns-clause-fits c = (field_fits c.args.field.now c.write_field.ensures.field, (c.in_ok-write_term.ensures.fits, c.in_ok-write_optional.ensures.fits))

pub returns-clause-bytes : goal.returns-clause-bytes
unfolding find_codec
returns-clause-bytes c = rw (c.in_ok-write_optional.ensures.bytes, c.in_ok-write_term.ensures.bytes, c.in_ok-write_field.ensures.bytes) (simp append_assoc)
