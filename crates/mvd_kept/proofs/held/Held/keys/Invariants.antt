use Rattle.std.proofs.Common.{◌≡◌, ◌+◌, ◌≤◌, ◌++◌, length}
use Rattle.std.specs.FinMap.{entries}
use Rattle.std.specs.List.{AllByRecursion}
use Rattle.std.specs.BTreeMap.Range.{entries_between}
use Rattle.std.specs.Option.{option_copied}
use Rattle.std.specs.declared.ops.Bound.TheVariants.{Unbounded}
use Rattle.mvd_keys.specs.Key.{key_cmp}
use Rattle.mvd_kept.specs.Walk.{first_of, walk_start, while_begins}
use Rattle.mvd_kept.proofs.Walked.{IsCountable}
use Rattle.mvd_kept.proofs.held.Held.keys.Given as goal

abbrev pub invariant-loop-taken : goal.invariant-loop-taken
invariant-loop-taken l = record {
  split : while_begins l.prefix (entries_between key_cmp (walk_start (first_of l.prefix (option_copied l.after)) (option_copied l.after)) Unbounded (entries l.self)) ≡ l.page.items ++ while_begins l.prefix l.walk.rest;
  countable : AllByRecursion IsCountable l.walk.rest;
  taken : length l.page.items ≡ l._taken;
  least : l.fn.looks ≤ l.looks;
  most : l.looks ≤ l.fn.looks + 1 + length l.page.items;
}
