use Rattle.std.proofs.Common.{◌≤◌, ◌+◌, length}
use Rattle.std.specs.Prelude.{vec_capacity, vec_len}
use Rattle.mvd_host.proofs.Fronts.{PartedSoFar}
use Rattle.mvd_host.proofs.front.parted.Given as goal

-- those so far are in one of the two, and there is room for all in either
abbrev pub invariant-loop-one : goal.invariant-loop-one
invariant-loop-one l = record {
  parted : PartedSoFar l.client l.yielded l.others.items l.last.items;
  count : vec_len l.others + vec_len l.last ≤ length l.yielded;
  others : length l.fn.asking.items ≤ vec_capacity l.others;
  last : length l.fn.asking.items ≤ vec_capacity l.last;
}
