use Rattle.std.specs.Option.{option_copied}
use Rattle.mvd_input.proofs.Defined.{Defining}
use Rattle.mvd_input.proofs.Lines.{left}
use Rattle.mvd_input.proofs.defs_file.read_defs.Given as goal

abbrev pub invariant-loop-rest : goal.invariant-loop-rest
invariant-loop-rest l = Defining l.text (option_copied l.rest) l.number l.defs

abbrev pub decreases-loop-rest : goal.decreases-loop-rest
decreases-loop-rest l = left (option_copied l.rest)
