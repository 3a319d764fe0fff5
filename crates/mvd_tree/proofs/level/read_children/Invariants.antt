use Rattle.std.proofs.Common.{◌-◌, ◌*◌}
use Rattle.std.specs.Prelude.{flat_map, slice_range}
use Rattle.mvd_digest.specs.Counted.{Absorbed, Hashes}
use Rattle.mvd_tree.specs.Kept.{digest_or_zeros}
use Rattle.mvd_tree.specs.Midstates.{HasMidstates}
use Rattle.mvd_tree.proofs.level.read_children.Given as goal

abbrev pub invariant-loop-group : goal.invariant-loop-group
invariant-loop-group l =
    HasMidstates l.nodes l.midstates.items
    × Absorbed l.hasher (flat_map digest_or_zeros (slice_range l.nodes (l.number * 16) (l.group * 4)))
    × Hashes 0 (128 * (l.group - l.from)) l.fn.hashed l.hashed
