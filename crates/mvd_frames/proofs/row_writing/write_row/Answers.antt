use Rattle.std.proofs.Common.{arith, subst}
use Rattle.std.specs.Int.{w128}
use Rattle.std.proofs.lemmas.Int.{to_z-of_z}
use Rattle.mvd_wire.specs.Rows.{sum}
use Rattle.mvd_wire.proofs.RowFits.{row_fits}
use Rattle.mvd_frames.proofs.row_writing.write_row.Goals as goal

pub returns-clause-fits : goal.returns-clause-fits
returns-clause-fits c = row_fits c.args.count c.args.total c.args.limits (omega (arith, c.ranges.count)) (subst sum.Fits (to_z-of_z w128 c.args.total c.ranges.total) c.write_sum.ensures.fits) c.in_ok-write_ends.ensures.fits
