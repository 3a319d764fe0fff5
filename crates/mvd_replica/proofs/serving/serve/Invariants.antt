use Rattle.std.proofs.Common.{◌≡◌, List, length}
use Rattle.mvd_replica.specs.Turns.{Turn}
use Rattle.mvd_replica.specs.Served.{Went, conversation_of}
use Rattle.mvd_replica.proofs.serving.serve.Given as goal

-- the turns so far
abbrev pub invariant-loop-frame : goal.invariant-loop-frame
invariant-loop-frame g l =
    (turns : List Turn) × (length turns ≡ l._frame)
    × Went turns (conversation_of l.initial.replica (g.R.Read.remaining l.initial.reader) (g.W.Write.contents l.initial.writer))
    (conversation_of l.replica (g.R.Read.remaining l.reader) (g.W.Write.contents l.writer))
