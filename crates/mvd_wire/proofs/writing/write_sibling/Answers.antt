use Rattle.std.proofs.Common.{append_assoc}
use Rattle.mvd_keys.specs.State.{pair_of}
use Rattle.mvd_wire.proofs.Spellings.{sibling_parts}
use Rattle.mvd_wire.proofs.writing.write_sibling.Goals as goal

pub returns : goal.returns
returns c = rw (c.in_ok-write_document.ensures.bytes, c.in_ok-write_dot.ensures.bytes, ← sibling_parts (pair_of c.args.sibling.now)) (simp append_assoc)
