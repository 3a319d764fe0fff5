use Rattle.std.proofs.Common.{◌≡◌, ℕ, ◌<◌, length, get_or, []}
use Rattle.mvd_tree.specs.Kept.{digest_or_zeros}
use Rattle.std.specs.Prelude.{None}
use Rattle.mvd_tree.proofs.nodes.all_or_zeros.Given as goal

abbrev pub invariant-loop-i : goal.invariant-loop-i
invariant-loop-i l = (length l.digests ≡ 16) × ((k : ℕ) → k < l.i → get_or l.digests k [] ≡ digest_or_zeros (get_or l.nodes k None))
