use Rattle.mvd_tree.proofs.Under.{digest_above-same}
use Rattle.mvd_tree.proofs.laws.nodes_depend_on_keys_under.Goals as goal

pub returns : goal.returns
returns c = λ a b path same. digest_above-same _ path a b same
