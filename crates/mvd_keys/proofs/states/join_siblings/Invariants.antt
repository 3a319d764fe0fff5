use Rattle.std.proofs.Common.{length, drop, ◌-◌, ◌+◌, ◌≤◌}
use Rattle.mvd_keys.specs.State.{pairs_of}
use Rattle.mvd_keys.proofs.Merging.{Merging}
use Rattle.mvd_keys.proofs.states.join_siblings.Given as goal

abbrev pub invariant-loop-i : goal.invariant-loop-i
invariant-loop-i l = record {
  first_in : l.i ≤ length l.first;
  second_in : l.j ≤ length l.second;
  merging : Merging l.seen l.also_seen (pairs_of l.first) (pairs_of l.second) (pairs_of l.out.items) (pairs_of (drop l.i l.first)) (pairs_of (drop l.j l.second));
}

abbrev pub decreases-loop-i : goal.decreases-loop-i
decreases-loop-i l = (length l.first - l.i) + (length l.second - l.j)
