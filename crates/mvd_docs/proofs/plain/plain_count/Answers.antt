use Rattle.std.proofs.Common.{arith, refl}
use Rattle.mvd_docs.proofs.PlainTexts.{plain_more}
use Rattle.mvd_docs.proofs.plain.plain_count.Goals as goal

pub loop-count-preserved : goal.loop-count-preserved
loop-count-preserved c =
    (omega arith, plain_more c.args.text.now c.loop-count.count c.loop-count-test.true c.loop-count.invariant.1 (c.if-is_unescaped.ensures refl))
