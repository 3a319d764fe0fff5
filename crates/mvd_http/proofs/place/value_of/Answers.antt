use Rattle.std.proofs.Common.{arith}
use Rattle.mvd_dots.proofs.Numerals.{value_below, all_digits_at, value_step}
use Rattle.mvd_http.proofs.place.value_of.Goals as goal

pub overflow_mul-value : goal.overflow_mul-value
overflow_mul-value c =
    omega (arith, value_below c.args.digits.now c.loop-digit.digit-index c.requires.digits c.requires.short c.loop-digit-test.true, c.loop-digit.invariant)

pub overflow_sub-digit : goal.overflow_sub-digit
overflow_sub-digit c = (all_digits_at c.args.digits.now c.loop-digit.digit-index 0 c.requires.digits c.loop-digit-test.true).0

pub overflow_add-value : goal.overflow_add-value
overflow_add-value c =
    let digit = all_digits_at c.args.digits.now c.loop-digit.digit-index 0 c.requires.digits c.loop-digit-test.true in
    omega (arith, value_below c.args.digits.now c.loop-digit.digit-index c.requires.digits c.requires.short c.loop-digit-test.true, c.loop-digit.invariant, c.from.ensures, digit.1)

pub loop-digit-preserved : goal.loop-digit-preserved
loop-digit-preserved c =
    rw c.from.ensures (value_step c.args.digits.now c.loop-digit.digit-index c.loop-digit.value c.requires.digits c.loop-digit-test.true c.loop-digit.invariant)
