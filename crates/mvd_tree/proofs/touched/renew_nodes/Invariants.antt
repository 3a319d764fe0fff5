use Rattle.std.proofs.Common.{◌≡◌, ◌+◌, ◌*◌, ◌/◌, length, map, take}
use Rattle.std.specs.FinSet.{from_list}
use Rattle.std.specs.Prelude.{slice_range}
use Rattle.mvd_tree.specs.Kept.{kept_inner}
use Rattle.mvd_tree.specs.Layout.{bucket_of}
use Rattle.mvd_tree.specs.Renewed.{Renews}
use Rattle.mvd_tree.proofs.touched.renew_nodes.Given as goal

abbrev pub invariant-loop-index : goal.invariant-loop-index
invariant-loop-index l = record {
  same : l.below ≡ l.fn.below;
  all : length l.above ≡ length l.fn.above;
  done : l.done ≡ from_list (map (λ c. bucket_of c.0 / l.by) (take l.index l.changes));
  nodes : Renews (λ n. kept_inner (slice_range l.fn.below (n * 16) (n * 16 + 16))) (λ ns. 512 * length ns) l.by (take l.index l.changes) l.fn.above l.above l.fn.hashed l.hashed;
}
