use Rattle.std.proofs.Common.{◌≡◌, ◌-◌, Some, None}
use Rattle.mvd_keys.specs.State.{pairs_of}
use Rattle.mvd_wire.specs.Codec.{read_each}
use Rattle.mvd_wire.specs.Codecs.{sibling, layout_of}
use Rattle.mvd_wire.proofs.Loops.{with_front}
use Rattle.mvd_wire.proofs.state_bytes.each_sibling_at.Given as goal

abbrev pub invariant-loop : goal.invariant-loop
invariant-loop l = with_front (pairs_of l.siblings.items) (read_each (sibling (layout_of l.version) l.context) (λ _ s. Some s.0) l.previous (l.count - l.counter) l.rest) ≡ read_each (sibling (layout_of l.version) l.context) (λ _ s. Some s.0) None l.count l.bytes
