use Rattle.std.proofs.Common.{arith}
use Rattle.std.proofs.lemmas.Int.Digits.{digits_more}
use Rattle.mvd_docs.proofs.plain.digit_count.Goals as goal

pub loop-count-preserved : goal.loop-count-preserved
loop-count-preserved c =
    (omega arith, digits_more 10 c.args.text.now c.loop-count.count c.loop-count-test.true c.loop-count.invariant.1 c.if-is_ascii_digit.ensures.bound)
