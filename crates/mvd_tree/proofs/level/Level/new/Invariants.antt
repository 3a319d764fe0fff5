use Rattle.std.proofs.Common.{◌≡◌, ℕ, length, get_or, None}
use Rattle.mvd_tree.proofs.level.Level.new.Given as goal

abbrev pub invariant-loop-group : goal.invariant-loop-group
invariant-loop-group l = (length l.midstates.items ≡ l.group) × ((group : ℕ) → get_or l.midstates.items group None ≡ None)
