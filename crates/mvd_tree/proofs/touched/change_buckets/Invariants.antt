use Rattle.std.proofs.Common.{◌≡◌, take, length}
use Rattle.mvd_tree.specs.Renewed.{with_changes}
use Rattle.mvd_tree.proofs.touched.change_buckets.Given as goal

abbrev pub invariant-loop-index : goal.invariant-loop-index
invariant-loop-index l =
    (l.buckets.items ≡ with_changes (take l.index l.changes) l.fn.buckets.items) × (length l.buckets.items ≡ 4096)
