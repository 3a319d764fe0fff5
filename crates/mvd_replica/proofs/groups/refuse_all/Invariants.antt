use Rattle.std.proofs.Common.{◌≡◌, ◌+◌, ◌++◌, length, map, vec_capacity}
use Rattle.mvd_replica.specs.Groups.{reply_unstored}
use Rattle.mvd_replica.proofs.groups.refuse_all.Given as goal

-- the replies so far
abbrev pub invariant-loop-prepared : goal.invariant-loop-prepared
invariant-loop-prepared l = record {
  told : l.replies.items ≡ l.initial.replies.items ++ map reply_unstored l.yielded;
  count : length l.replies.items ≡ length l.initial.replies.items + length l.yielded;
  room : vec_capacity l.replies ≡ vec_capacity l.initial.replies;
}
