use Rattle.std.proofs.Common.{◌≡◌, take, not, true}
use Rattle.std.specs.List.{list_all}
use Rattle.std.specs.FinSet.{contains}
use Rattle.mvd_keys.proofs.states.are_unseen.Given as goal

abbrev pub invariant-loop-sibling : goal.invariant-loop-sibling
invariant-loop-sibling l = list_all (λ s. not (contains l.seen s.dot)) (take l.sibling-index l.siblings) ≡ true
