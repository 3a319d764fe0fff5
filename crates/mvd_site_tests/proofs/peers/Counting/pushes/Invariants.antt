use Rattle.std.proofs.Common.{◌≡◌, length}
use Rattle.mvd_site_tests.proofs.peers.Counting.pushes.Given as goal

abbrev pub invariant-loop-key : goal.invariant-loop-key
invariant-loop-key l = length l.told.items ≡ l.key-index
