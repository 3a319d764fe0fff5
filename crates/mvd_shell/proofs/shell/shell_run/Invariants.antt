use Rattle.mvd_shell.specs.Shell.{at}
use Rattle.mvd_shell.proofs.Typing.{Far}
use Rattle.mvd_shell.proofs.shell.shell_run.Given as goal

-- the lines before this one were told
abbrev pub invariant-loop-number : goal.invariant-loop-number
invariant-loop-number g l =
    Far g.A.Endpoint.answers g.L.Losses.lost
    (at l.initial.asked (g.R.Read.remaining l.initial.reader) (g.W.Write.contents l.initial.writer))
    (at l.asked (g.R.Read.remaining l.reader) (g.W.Write.contents l.writer)) l.number
