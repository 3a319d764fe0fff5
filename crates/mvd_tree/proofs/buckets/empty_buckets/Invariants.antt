use Rattle.std.proofs.Common.{◌≡◌, ◌≤◌, ◌-◌, ℕ, length, get_or}
use Rattle.std.specs.FinMap.{empty}
use Rattle.mvd_tree.proofs.buckets.empty_buckets.Given as goal

abbrev pub invariant-loop-alloc : goal.invariant-loop-alloc
invariant-loop-alloc l = (length l.buckets.items ≤ l.count) × ((n : ℕ) → get_or l.buckets.items n empty ≡ empty)

abbrev pub decreases-loop-alloc : goal.decreases-loop-alloc
decreases-loop-alloc l = l.count - length l.buckets.items
