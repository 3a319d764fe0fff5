use Rattle.std.proofs.Common.{◌-◌, length}
use Rattle.mvd_shell.proofs.Pieces.{SoFar}
use Rattle.mvd_shell.proofs.line_reader.read_line.Given as goal

-- pieces of one line, none of them too long
abbrev pub invariant-loop-fault : goal.invariant-loop-fault
invariant-loop-fault g l = SoFar (g.R.Read.remaining l.initial.reader) (g.R.Read.remaining l.reader) l.line.items

abbrev pub decreases-loop-fault : goal.decreases-loop-fault
decreases-loop-fault g l = 16777216 - length l.line.items
