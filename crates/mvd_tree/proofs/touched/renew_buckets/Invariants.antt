use Rattle.std.proofs.Common.{◌≡◌, ◌*◌, ◌/◌, get_or, length, map, take}
use Rattle.std.specs.FinMap.{empty, entries, len}
use Rattle.std.specs.FinSet.{from_list}
use Rattle.std.specs.List.{sum_by}
use Rattle.mvd_tree.specs.Kept.{kept_bucket}
use Rattle.mvd_tree.specs.Layout.{bucket_of}
use Rattle.mvd_tree.specs.Renewed.{Renews}
use Rattle.mvd_tree.proofs.touched.renew_buckets.Given as goal

abbrev pub invariant-loop-index : goal.invariant-loop-index
invariant-loop-index l = record {
  same : l.buckets.items ≡ l.fn.buckets.items;
  all : length l.lowest ≡ 4096;
  done : l.done ≡ from_list (map (λ c. bucket_of c.0 / 1) (take l.index l.changes));
  nodes : Renews (λ n. kept_bucket (entries (get_or l.fn.buckets.items n empty))) (λ ns. 32 * sum_by (λ n. len (get_or l.fn.buckets.items n empty)) ns) 1 (take l.index l.changes) l.fn.lowest l.lowest l.fn.hashed l.hashed;
}
