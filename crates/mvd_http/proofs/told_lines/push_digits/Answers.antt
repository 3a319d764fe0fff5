use Rattle.std.proofs.Common.{get_or}
use Rattle.std.proofs.lemmas.List.{get_or_default}
use Rattle.mvd_http.proofs.Reading.{digits_on, path_digit}
use Rattle.mvd_http.proofs.told_lines.push_digits.Goals as goal

pub push_digit-requires : goal.push_digit-requires
push_digit-requires c =
    let ds = c.args.digits.now in
    let i = c.loop-digit.digit-index in
    path_digit ds i (get_or ds i 0) c.requires c.loop-digit-test.true (get_or_default ds i 0 (get_or ds i 0) c.loop-digit-test.true)

pub loop-digit-preserved : goal.loop-digit-preserved
loop-digit-preserved c =
    let ds = c.args.digits.now in
    let i = c.loop-digit.digit-index in
    digits_on _ _ _ ds i (get_or ds i 0) c.loop-digit-test.true (get_or_default ds i 0 (get_or ds i 0) c.loop-digit-test.true) c.loop-digit.invariant c.in_ok-push_digit.ensures
