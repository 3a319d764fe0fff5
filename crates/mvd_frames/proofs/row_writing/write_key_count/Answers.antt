use Rattle.std.proofs.Common.{rules}
use Rattle.mvd_wire.specs.Codec.{number}
use Rattle.mvd_wire.specs.Rows.{key_count}
use Rattle.mvd_frames.proofs.row_writing.write_key_count.Goals as goal

pub returns-clause-fits : goal.returns-clause-fits
unfolding key_count number
returns-clause-fits c = (c.write_key.ensures.fits, search rules)
