use Rattle.std.specs.Option.{option_copied}
use Rattle.mvd_input.proofs.Addressed.{Finding}
use Rattle.mvd_input.proofs.Lines.{left}
use Rattle.mvd_input.proofs.addresses.addresses_of.Given as goal

abbrev pub invariant-loop-rest : goal.invariant-loop-rest
invariant-loop-rest l = Finding l.ip l.list (option_copied l.rest) l.found.items

abbrev pub decreases-loop-rest : goal.decreases-loop-rest
decreases-loop-rest l = left (option_copied l.rest)
