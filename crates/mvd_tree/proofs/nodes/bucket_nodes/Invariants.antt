use Rattle.std.proofs.Common.{◌≡◌, ◌*◌, map, take}
use Rattle.std.specs.FinMap.{entries}
use Rattle.mvd_digest.specs.Counted.{Hashes}
use Rattle.mvd_tree.specs.Counted.{all_keys}
use Rattle.mvd_tree.specs.Kept.{kept_bucket}
use Rattle.mvd_tree.proofs.nodes.bucket_nodes.Given as goal

abbrev pub invariant-loop-number : goal.invariant-loop-number
invariant-loop-number l =
    (l.buckets.items ≡ l.fn.buckets.items)
    × (l.nodes.items ≡ map (λ bucket. kept_bucket (entries bucket)) (take l.number l.fn.buckets.items))
    × Hashes l.number (32 * all_keys (take l.number l.fn.buckets.items)) l.fn.hashed l.hashed
