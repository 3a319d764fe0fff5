use Rattle.std.proofs.Common.{◌+◌}
use Rattle.mvd_tree.specs.Midstates.{AreForgotten}
use Rattle.mvd_tree.proofs.level.forget.Given as goal

abbrev pub invariant-loop-next : goal.invariant-loop-next
invariant-loop-next l = AreForgotten l.fn.midstates.items l.midstates.items (l.group + 1) l.next
