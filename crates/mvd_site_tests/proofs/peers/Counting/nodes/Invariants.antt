use Rattle.std.proofs.Common.{◌≡◌, length}
use Rattle.mvd_site_tests.proofs.peers.Counting.nodes.Given as goal

abbrev pub invariant-loop-path : goal.invariant-loop-path
invariant-loop-path l = length l.told.items ≡ l.path-index
