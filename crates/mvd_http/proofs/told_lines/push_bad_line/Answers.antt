use Rattle.std.proofs.Common.{codes}
use Rattle.std.specs.Fmt.{decimal}
use Rattle.mvd_http.proofs.Steps.{steps3}
use Rattle.mvd_http.proofs.told_lines.push_bad_line.Goals as goal

pub returns : goal.returns
returns c =
    steps3 _ _ _ _ (codes "{\"refused\":33,\"name\":\"BadBody\",\"line\":") (decimal c.args.line) (codes "}") c.in_ok-push_word.ensures.text c.in_ok-push_number.ensures.text c.in_ok-push_word-2.ensures.text
