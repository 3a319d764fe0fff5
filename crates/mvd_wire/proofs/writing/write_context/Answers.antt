use Rattle.std.proofs.Common.{◌∙◌, append_assoc}
use Rattle.mvd_wire.proofs.Spellings.{context_is}
use Rattle.mvd_wire.proofs.writing.write_context.Goals as goal

pub returns-clause-bytes : goal.returns-clause-bytes
returns-clause-bytes c = rw (context_is c.args.value.now, ← c.entries-entries.ensures.entries) (c.in_ok-write_entries.ensures ∙ rw c.in_ok-write_len32.ensures (simp append_assoc))
