use Rattle.std.proofs.Common.{arith}
use Rattle.mvd_input.proofs.Addressed.{one_number}
use Rattle.mvd_input.proofs.addresses.port_of.Goals as goal

pub returns-in-Some-2-clause-none : goal.returns-in-Some-2-clause-none
returns-in-Some-2-clause-none c = λ port is some few.
    let same = one_number c.args.text.now port c.in-Some.port is c.in-Some.ensures.found in omega (arith, same, few, c.if-port-le-LAST_PORT.false)

pub returns-in-Some-2-2-clause-none : goal.returns-in-Some-2-2-clause-none
returns-in-Some-2-2-clause-none c = λ port is some few.
    let same = one_number c.args.text.now port c.in-Some.port is c.in-Some.ensures.found in omega (arith, same, some, c.if-port-gt0.false)
