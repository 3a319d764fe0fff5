use Rattle.std.proofs.Common.{◌∙◌, ◌==◌, length, ap, sym, rules, tests}
use Rattle.std.proofs.lemmas.Iterator.Splits.{YieldsList-from_slice_split}
use Rattle.std.proofs.lemmas.Iterator.Consumers.{count_from_yields_List}
use Rattle.mvd_http.proofs.Lines.{lines_are}
use Rattle.mvd_http.proofs.posted.line_count.Goals as goal

pub returns : goal.returns
returns c =
    count_from_yields_List c.split.result c.count.result c.count.ensures.ran
    (YieldsList-from_slice_split {s = c.split.result} _ (λ b. b == 10) c.without_last.result.now c.split.ensures.rest c.split.ensures.done c.split.ensures.closure (λ x r q k. search (rules, tests)))
    ∙ ap length (lines_are c.args.body.now c.without_last.result.now (sym c.is_empty.ensures ∙ c.if-is_empty.false) c.without_last.ensures)
