use Rattle.std.specs.Prelude.{string_bytes}
use Rattle.std.specs.Option.{option_copied}
use Rattle.mvd_script.proofs.Running.{Running}
use Rattle.mvd_input.proofs.Lines.{left}
use Rattle.mvd_script.proofs.script.run_lines.Given as goal

abbrev pub invariant-loop-rest : goal.invariant-loop-rest
invariant-loop-rest g l = Running l.text (option_copied l.rest) l.number l.script (g.W.Write.contents l.initial.writer) (g.W.Write.contents l.writer) (string_bytes l.out)

abbrev pub decreases-loop-rest : goal.decreases-loop-rest
decreases-loop-rest g l = left (option_copied l.rest)
