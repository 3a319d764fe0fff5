use Rattle.std.proofs.Common.{◌≡◌, ◌++◌}
use Rattle.mvd_sync.proofs.Nodes.{told_first}
use Rattle.mvd_sync.proofs.levels.add_children.Given as goal

abbrev pub invariant-loop-digit : goal.invariant-loop-digit
invariant-loop-digit l = l.below.items ≡ l.initial.below.items ++ told_first l.path l.digit (l.mine.own, l.mine.children) (l.theirs.own, l.theirs.children)
