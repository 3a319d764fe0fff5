use Rattle.std.proofs.Common.{◌≤◌, ◌-◌, length}
use Rattle.mvd_rows.proofs.Searching.{AllAbove, AllBelow}
use Rattle.mvd_rows.proofs.among.is_among.Given as goal

abbrev pub invariant-loop-low : goal.invariant-loop-low
invariant-loop-low l = record {
  met : l.low ≤ l.high;
  within : l.high ≤ length l.others;
  below : AllBelow l.others l.sibling.dot l.low;
  above : AllAbove l.others l.sibling.dot l.high;
}

abbrev pub decreases-loop-low : goal.decreases-loop-low
decreases-loop-low l = l.high - l.low
