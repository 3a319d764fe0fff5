use Rattle.std.proofs.Common.{◌≡◌, ◌≤◌, ◌++◌, length}
use Rattle.std.specs.FinMap.{from_entries}
use Rattle.std.specs.Vec.Iter.{into_iter_items}
use Rattle.mvd_digest.specs.Counted.{Hashes}
use Rattle.mvd_tree.specs.Counted.{all_keys, key_bytes}
use Rattle.mvd_tree.specs.Layout.{HoldApart}
use Rattle.mvd_tree.proofs.buckets.filled.Given as goal

abbrev pub invariant-loop-key : goal.invariant-loop-key
invariant-loop-key l =
    (goal.iterator-loop-key).can_next l.key-iterator
    × (goal.iterator-loop-key).is_finite l.key-iterator
    × (l.yielded ++ into_iter_items l.key-iterator ≡ l.fn.entries.items)
    × HoldApart l.buckets.items (from_entries l.yielded)
    × (all_keys l.buckets.items ≤ length l.yielded)
    × Hashes (length l.yielded) (key_bytes l.yielded) l.fn.hashed l.hashed
