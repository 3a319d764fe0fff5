use Rattle.std.proofs.Common.{List, ◌++◌, drop, map}
use Rattle.mvd_conn.specs.declared.passes.Pass.{Pass}
use Rattle.mvd_input.specs.Passes.{said_by}
use Rattle.mvd_server.specs.TokenFiles.{ArePassesOf}
use Rattle.mvd_server.proofs.tokens.listed.Given as goal

-- with the passes of the lines that are left, those so far are of all lines
abbrev pub invariant-loop-line : goal.invariant-loop-line
invariant-loop-line l =
    (rest : List Pass) → ArePassesOf (map said_by (drop l.line-index l.lines)) rest
    → ArePassesOf (map said_by l.lines) (l.passes ++ rest)
