use Rattle.std.proofs.Common.{arith}
use Rattle.mvd_tree.proofs.Apart.{same_under}
use Rattle.mvd_tree.proofs.laws.equal_nodes_hold_equal_keys.Goals as goal

pub returns : goal.returns
returns c = λ a b apart path short e. same_under a b apart _ path (omega (arith, short)) e
