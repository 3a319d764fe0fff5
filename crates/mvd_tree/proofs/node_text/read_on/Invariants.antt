use Rattle.std.proofs.Common.{ℕ, List, ◌++◌, ◌*◌, take}
use Rattle.std.specs.Prelude.{flat_map}
use Rattle.mvd_digest.specs.Counted.{Absorbed, Hashes}
use Rattle.mvd_tree.specs.Kept.{digest_or_zeros}
use Rattle.mvd_tree.proofs.node_text.read_on.Given as goal

abbrev pub invariant-loop-node : goal.invariant-loop-node
invariant-loop-node l =
    ((m : List ℕ) → Absorbed l.from m → Absorbed l.hasher (m ++ flat_map digest_or_zeros (take l.node-index l.nodes)))
    × Hashes 0 (32 * l.node-index) l.fn.hashed l.hashed
