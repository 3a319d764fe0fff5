use Rattle.mvd_wire.proofs.RowFits.{sum_fits}
use Rattle.mvd_frames.proofs.row_writing.write_sum.Goals as goal

pub returns-in_err-write_u64-clause-fits : goal.returns-in_err-write_u64-clause-fits
returns-in_err-write_u64-clause-fits c = sum_fits c.args.value c.ranges.value

pub returns-in_err-write_u64-2-clause-fits : goal.returns-in_err-write_u64-2-clause-fits
returns-in_err-write_u64-2-clause-fits c = sum_fits c.args.value c.ranges.value

pub returns-clause-fits : goal.returns-clause-fits
returns-clause-fits c = sum_fits c.args.value c.ranges.value
