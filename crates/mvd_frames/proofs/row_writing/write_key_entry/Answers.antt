use Rattle.std.proofs.Common.{rules}
use Rattle.mvd_wire.proofs.RowFits.{key_entry_fits}
use Rattle.mvd_frames.proofs.row_writing.write_key_entry.Goals as goal

pub returns-clause-fits : goal.returns-clause-fits
returns-clause-fits c = key_entry_fits c.args.value.now.0 c.args.value.now.1 c.write_key.ensures.key (search rules)
