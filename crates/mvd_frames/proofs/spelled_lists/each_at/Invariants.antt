use Rattle.std.proofs.Common.{◌≡◌, ◌-◌}
use Rattle.mvd_wire.specs.Codec.{read_each}
use Rattle.mvd_wire.specs.Rows.{item_of}
use Rattle.mvd_wire.proofs.Loops.{with_front}
use Rattle.mvd_frames.proofs.spelled_lists.each_at.Given as goal

abbrev pub invariant-loop : goal.invariant-loop
invariant-loop g l = with_front l.items.items (read_each (item_of g.T.Spelled.kind) (λ s _. s) tt (l.count - l.counter) l.rest) ≡ read_each (item_of g.T.Spelled.kind) (λ s _. s) tt l.count l.bytes
