use Rattle.std.proofs.Common.{arith}
use Rattle.mvd_wire.proofs.Spellings.{length_context}
use Rattle.mvd_wire.proofs.lengths.context_length.Goals as goal

pub returns-clause-length : goal.returns-clause-length
returns-clause-length c = rw (length_context c.args.value.now, ← c.entries.ensures.entries) (omega (arith, c.entries_length.ensures, c.saturating_add.ensures))
