use Rattle.mvd_kept.proofs.Texts.{equal_nodes}
use Rattle.mvd_kept.proofs.laws.equal_nodes_hold_equal_states.Goals as goal

pub returns : goal.returns
returns c = λ a b left right apart path short e. equal_nodes a b left right apart path short e
