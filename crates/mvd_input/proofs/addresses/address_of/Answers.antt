use Rattle.std.proofs.Common.{arith}
use Rattle.mvd_input.proofs.Addressed.{one_port}
use Rattle.mvd_input.proofs.addresses.address_of.Goals as goal

pub returns-in-Ok-2-clause-none : goal.returns-in-Ok-2-clause-none
returns-in-Ok-2-clause-none c = λ address is some.
    let same = one_port c.args.text.now address c.in-Ok.address is c.in-Ok.ensures.value in omega (arith, same, some, c.port.ensures, c.if-port-gt0.false)
