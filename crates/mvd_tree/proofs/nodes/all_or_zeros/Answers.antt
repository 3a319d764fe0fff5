use Rattle.std.proofs.Common.{arith}
use Rattle.mvd_tree.proofs.Answers.{all_told}
use Rattle.mvd_tree.proofs.nodes.all_or_zeros.Goals as goal

pub returns : goal.returns
returns c = all_told c.args.nodes.now c.loop-i.digests c.requires c.loop-i.invariant.0 (λ k l. c.loop-i.invariant.1 k (omega (arith, c.loop-i-test.false)))
