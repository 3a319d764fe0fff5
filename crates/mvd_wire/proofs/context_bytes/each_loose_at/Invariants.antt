use Rattle.std.proofs.Common.{◌≡◌, ◌-◌, ◌+◌}
use Rattle.mvd_wire.specs.Codec.{read_each}
use Rattle.mvd_wire.specs.Codecs.{loose_from}
use Rattle.mvd_wire.proofs.Loops.{with_front}
use Rattle.mvd_wire.proofs.context_bytes.each_loose_at.Given as goal

abbrev pub invariant-loop : goal.invariant-loop
invariant-loop l = with_front l.loose.items (read_each loose_from (λ _ n. n + 1) l.least (l.count - l.counter) l.rest) ≡ read_each loose_from (λ _ n. n + 1) l.fn.least l.count l.bytes
