use Rattle.std.proofs.Common.{List, [], ◌≡◌, length, map, arith, subst, sym}
use Rattle.std.proofs.lemmas.List.{append-nil, drop_all}
use Rattle.mvd_conn.specs.declared.passes.Pass.{Pass}
use Rattle.mvd_input.specs.Passes.{said_by}
use Rattle.mvd_input.specs.declared.pass_lines.PassLine.{PassLine}
use Rattle.mvd_server.specs.TokenFiles.{ArePassesOf}
use Rattle.mvd_server.proofs.tokens.listed.Goals as goal

pub returns-clause-passes : goal.returns-clause-passes
returns-clause-passes c =
    let lines : List PassLine = c.args.lines.now in
    let passes : List Pass = c.loop-line.passes in
    subst (λ (ps : List Pass). ArePassesOf (map said_by lines) ps) (append-nil passes)
    (c.loop-line.invariant [] (subst (λ (ls : List PassLine). ArePassesOf (map said_by ls) []) (sym (drop_all c.loop-line.line-index lines (omega (arith, c.loop-line.auto.line-index-end, c.loop-line-test.false)))) tt))
