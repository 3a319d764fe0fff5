use Rattle.mvd_wire.specs.Codecs.{layout_of}
use Rattle.mvd_wire.proofs.Entries.{context_read}
use Rattle.mvd_wire.proofs.context_bytes.context_at.Goals as goal

pub returns : goal.returns
returns c = rw (context_read (layout_of c.args.version) c.in_ok-count.count c.args.bytes.now c.in_ok-count.rest.now c.in_ok-count.ensures) c.each_entry_at.ensures
