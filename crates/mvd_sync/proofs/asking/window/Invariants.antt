use Rattle.std.proofs.Common.{◌≡◌, ◌<◌, ◌≤◌, ◌-◌, ◌^◌, take, min}
use Rattle.std.specs.List.{sum_by}
use Rattle.mvd_sync.specs.Questions.{push_bytes}
use Rattle.mvd_sync.proofs.asking.window.Given as goal

-- the bytes of the first pushes, of which there is one or which are within the limit
abbrev pub invariant-loop-pair : goal.invariant-loop-pair
invariant-loop-pair l = record {
  count : l.count ≡ l.pair-index;
  bytes : l.bytes ≡ min (sum_by push_bytes (take l.pair-index l.pairs)) (2 ^ 64 - 1);
  small : 1 < l.count → sum_by push_bytes (take l.pair-index l.pairs) ≤ 1048576;
}
