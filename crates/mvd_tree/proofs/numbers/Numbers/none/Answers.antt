use Rattle.mvd_tree.proofs.BitSet.{none_in}
use Rattle.mvd_tree.proofs.numbers.Numbers.none.Goals as goal

pub returns : goal.returns
returns c = none_in 64
