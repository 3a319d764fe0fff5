use Rattle.std.proofs.Common.{◌≡◌, take}
use Rattle.mvd_sync.proofs.asked.copy_pairs.Given as goal

abbrev pub invariant-loop-key : goal.invariant-loop-key
invariant-loop-key l = l.all.items ≡ take l.key-index l.pairs
