use Rattle.std.proofs.Common.{◌≡◌, ◌-◌, length, take}
use Rattle.mvd_wire.specs.Codec.{read_each}
use Rattle.mvd_wire.specs.Rows.{item_of, digest}
use Rattle.mvd_wire.proofs.Loops.{with_front}
use Rattle.mvd_frames.proofs.lists.sixteen_digests_at.Given as goal

abbrev pub invariant-loop-i : goal.invariant-loop-i
invariant-loop-i l = record {
  sixteen : length l.digests ≡ 16;
  so_far : with_front (take l.i l.digests) (read_each (item_of digest) (λ s _. s) tt (16 - l.i) l.rest) ≡ read_each (item_of digest) (λ s _. s) tt 16 l.bytes;
}
