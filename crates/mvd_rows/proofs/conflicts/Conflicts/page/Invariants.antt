use Rattle.std.proofs.Common.{◌≡◌, ◌+◌, ◌≤◌, ◌++◌, length}
use Rattle.std.specs.BTreeMap as tree
use Rattle.std.specs.BTreeMap.Range.{entries_between}
use Rattle.std.specs.Option.{option_copied}
use Rattle.std.specs.declared.ops.Bound.TheVariants.{Unbounded}
use Rattle.mvd_keys.specs.Key.{key_cmp}
use Rattle.mvd_rows.specs.Pages.{start_of}
use Rattle.mvd_rows.proofs.conflicts.Conflicts.page.Given as goal

abbrev pub invariant-loop-taken : goal.invariant-loop-taken
invariant-loop-taken l = record {
  split : entries_between key_cmp (start_of (option_copied l.after)) Unbounded l.self.keys.map.entries ≡ l.keys.items ++ l.walk.rest;
  ordered : tree.IsOrdered key_cmp l.self.keys.map;
  looks : l.meter.looks ≤ l.fn.meter.looks + 1 + length l.keys.items;
  taken : length l.keys.items ≡ l._taken;
  updates : l.meter.updates ≤ l.fn.meter.updates;
  least_updates : l.fn.meter.updates ≤ l.meter.updates;
  least_looks : l.fn.meter.looks ≤ l.meter.looks;
}
