use Rattle.std.specs.Option.{option_copied}
use Rattle.mvd_input.proofs.Lines.{left}
use Rattle.mvd_input.proofs.Reading.{Reading}
use Rattle.mvd_input.proofs.hexadecimal.hex_bytes.Given as goal

abbrev pub invariant-loop-rest : goal.invariant-loop-rest
invariant-loop-rest l = Reading l.text (option_copied l.rest) l.number l.bytes.items

abbrev pub decreases-loop-rest : goal.decreases-loop-rest
decreases-loop-rest l = left (option_copied l.rest)
