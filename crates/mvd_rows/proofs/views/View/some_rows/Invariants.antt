use Rattle.std.proofs.Common.{◌≡◌, ◌+◌, ◌≤◌, ◌++◌, length, map}
use Rattle.std.specs.BTreeMap as tree
use Rattle.std.specs.BTreeMap.Range.{entries_between}
use Rattle.std.specs.declared.ops.Bound.TheVariants.{Unbounded}
use Rattle.mvd_docs.specs.Term.{term_cmp}
use Rattle.mvd_rows.specs.Pages.{shown_entry, start_of}
use Rattle.mvd_rows.proofs.views.View.some_rows.Given as goal

abbrev pub invariant-loop-taken : goal.invariant-loop-taken
invariant-loop-taken l = record {
  split : map shown_entry (entries_between term_cmp (start_of l.after) Unbounded l.self.rows.map.entries) ≡ l.rows.items ++ map shown_entry l.walk.rest;
  ordered : tree.IsOrdered term_cmp l.self.rows.map;
  looks : l.meter.looks ≤ l.fn.meter.looks + 1 + length l.rows.items;
  taken : length l.rows.items ≡ l._taken;
  updates : l.meter.updates ≤ l.fn.meter.updates;
  least_updates : l.fn.meter.updates ≤ l.meter.updates;
  least_looks : l.fn.meter.looks ≤ l.meter.looks;
}
