use Rattle.std.proofs.Common.{◌≡◌, ◌+◌, ◌++◌, length, map, vec_capacity}
use Rattle.mvd_replica.specs.Pushes.{told_of}
use Rattle.mvd_client.proofs.pushing.add_told.Given as goal

-- what was told so far
abbrev pub invariant-loop-reply : goal.invariant-loop-reply
invariant-loop-reply l = record {
  told : l.told.items ≡ l.initial.told.items ++ map told_of l.yielded;
  count : length l.told.items ≡ length l.initial.told.items + length l.yielded;
  room : vec_capacity l.told ≡ vec_capacity l.initial.told;
}
