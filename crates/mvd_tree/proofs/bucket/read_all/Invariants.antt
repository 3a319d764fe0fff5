use Rattle.std.proofs.Common.{◌*◌}
use Rattle.mvd_digest.specs.Counted.{Hashes}
use Rattle.mvd_tree.specs.Midstates.{AreRead, HasRead}
use Rattle.mvd_tree.proofs.bucket.read_all.Given as goal

abbrev pub invariant-loop-index : goal.invariant-loop-index
invariant-loop-index l =
    HasRead l.entries l.index l.hasher
    × AreRead l.entries l.midstates.items
    × Hashes 0 (32 * l.index) l.fn.hashed l.hashed
