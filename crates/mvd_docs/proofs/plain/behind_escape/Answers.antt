use Rattle.std.proofs.Common.{sym, ◌∙◌}
use Rattle.mvd_docs.proofs.PlainTexts.{has_letter, escaped_by}
use Rattle.mvd_docs.proofs.plain.behind_escape.Goals as goal

pub returns-then-contains-clause-escape : goal.returns-then-contains-clause-escape
returns-then-contains-clause-escape c =
    let letter = c.in_ok-letter.letter.now in
    escaped_by c.args.text.now c.in_ok-behind.field-0.now c.in_ok-letter.rest.now letter c.in_ok-behind.ensures.found c.in_ok-letter.ensures.cases.0 (has_letter letter (sym c.contains.ensures.value ∙ c.if-contains.true))
