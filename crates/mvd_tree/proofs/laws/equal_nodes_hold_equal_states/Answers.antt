use Rattle.std.proofs.Common.{arith}
use Rattle.mvd_tree.proofs.Apart.{same_states_under}
use Rattle.mvd_tree.proofs.laws.equal_nodes_hold_equal_states.Goals as goal

pub returns : goal.returns
returns g c = λ spelled a b apart one_text path short e. same_states_under spelled a b apart one_text _ path (omega (arith, short)) e
