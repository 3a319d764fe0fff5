use Rattle.std.proofs.Common.{◌≡◌, ◌++◌, ◌+◌, drop, length}
use Rattle.mvd_sync.specs.Walking.{opened_buckets}
use Rattle.mvd_sync.proofs.walking.open.Given as goal

-- the buckets of what is left complete those that were opened
abbrev pub invariant-loop-path : goal.invariant-loop-path
invariant-loop-path l = record {
  is : opened_buckets l.fn.asked l.fn.mine.items l.fn.theirs.items ≡ l.buckets.items ++ opened_buckets (drop l.path-index l.asked) l.mine.items l.theirs.items;
  mine : length l.mine.items + l.path-index ≡ length l.asked;
  theirs : length l.theirs.items + l.path-index ≡ length l.asked;
}
