use Rattle.std.proofs.Common.{◌≡◌, ◌++◌, take}
use Rattle.mvd_sync.specs.Walk.{told_all}
use Rattle.mvd_sync.proofs.levels.add_all_children.Given as goal

abbrev pub invariant-loop-index : goal.invariant-loop-index
invariant-loop-index l = l.below.items ≡ l.initial.below.items ++ told_all (take l.index l.paths) (take l.index l.mine) (take l.index l.theirs)
