use Rattle.std.proofs.Common.{◌≡◌, rules}
use Rattle.mvd_records.proofs.statements.check.Goals as goal

pub returns-in-Ok-true-clause-damaged : goal.returns-in-Ok-true-clause-damaged
returns-in-Ok-true-clause-damaged g c marked site it holds _ apart =
    let says = rw c.in-Ok-true.field-0-test at (c.in-Ok-true.ensures.any marked site it holds) in
    let two : c.args.version ≡ 2 = search rules in
    says (apart.moved two)

pub returns-in-Ok-false-clause-apart : goal.returns-in-Ok-false-clause-apart
returns-in-Ok-false-clause-apart g c marked site it holds =
    let says = rw c.in-Ok-false.field-0-test at (c.in-Ok-false.ensures.any marked site it holds) in
    record { apart = λ key a b one two. says key a one; moved = λ _. says }

pub returns-in-Ok-true-has_both-clause-damaged : goal.returns-in-Ok-true-has_both-clause-damaged
returns-in-Ok-true-has_both-clause-damaged g c marked site it holds _ apart =
    (rw c.in-Ok-true-has_both.field-0-test at (c.in-Ok-true-has_both.ensures.any marked site it holds)) apart.apart

pub returns-in-Ok-false-has_both-clause-apart : goal.returns-in-Ok-false-has_both-clause-apart
returns-in-Ok-false-has_both-clause-apart g c marked site it holds =
    let says = rw c.in-Ok-false-has_both.field-0-test at (c.in-Ok-false-has_both.ensures.any marked site it holds) in
    record { apart = says; moved = λ two. absurd (let other = c.if-version-eq2.false in search rules) }
