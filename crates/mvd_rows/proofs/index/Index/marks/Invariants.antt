use Rattle.std.proofs.Common.{◌≡◌, ◌+◌, ◌≤◌, ◌++◌, length}
use Rattle.std.specs.BTreeMap.Range.{entries_between}
use Rattle.std.specs.declared.ops.Bound.TheVariants.{Excluded, Unbounded}
use Rattle.mvd_rows.specs.Marks.{mark_cmp}
use Rattle.mvd_rows.specs.Pages.{up_to}
use Rattle.mvd_rows.proofs.index.Index.marks.Given as goal

abbrev pub invariant-loop-taken : goal.invariant-loop-taken
invariant-loop-taken l = record {
  split : up_to l.to (entries_between mark_cmp (Excluded l.start) Unbounded l.self.places.map.entries) ≡ l.marks.items ++ up_to l.to l.walk.rest;
  looks : l.meter.looks ≤ l.fn.meter.looks + 1 + length l.marks.items;
  taken : length l.marks.items ≡ l._taken;
  updates : l.meter.updates ≤ l.fn.meter.updates;
  least_updates : l.fn.meter.updates ≤ l.meter.updates;
  least_looks : l.fn.meter.looks ≤ l.meter.looks;
}
