use Rattle.std.proofs.Common.{◌≡◌, take}
use Rattle.mvd_sync.proofs.asked.copy_paths.Given as goal

abbrev pub invariant-loop-path : goal.invariant-loop-path
invariant-loop-path l = l.all.items ≡ take l.path-index l.paths
