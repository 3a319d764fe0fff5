use Rattle.std.proofs.Common.{◌∙◌, ap, sym}
use Rattle.std.proofs.lemmas.Result.{err_from_is_err_and}
use Rattle.clap.specs.Walk.{texts}
use Rattle.clap.specs.Words.{takes}
use Rattle.mvd_input.proofs.Ordered.{of_words, reads_words, refused_words, none_asked, met_rows, unmet_rows}
use Rattle.mvd_input.proofs.order.order_of.Goals as goal

pub returns-in_err-matches-clause-words : goal.returns-in_err-matches-clause-words
returns-in_err-matches-clause-words c =
    let p = err_from_is_err_and c.from_residual-in_err-matches.result c.from_residual-in_err-matches.ensures.1 in
    let words = texts c.args.words.now in
    rw p.1 (refused_words words _ _ (λ e. c.in_err-matches.ensures.passes (ap (λ a. takes a words) c.in_ok-command.ensures ∙ e)) p.2)

pub returns-in-Some-clause-words : goal.returns-in-Some-clause-words
returns-in-Some-clause-words c =
    let words = texts c.args.words.now in
    let same = of_words c.in_ok-command.field-0 words c.in_ok-matches.matches c.in_ok-command.ensures c.in_ok-matches.ensures.matches in
    reads_words words _ _ c.order_in.result (sym same ∙ met_rows c.in_ok-matches.matches _ _ (sym c.in-Some.ensures.name) (sym c.in-Some.ensures.rows)) c.order_in.ensures

pub returns-clause-words : goal.returns-clause-words
returns-clause-words c =
    let words = texts c.args.words.now in
    let same = of_words c.in_ok-command.field-0 words c.in_ok-matches.matches c.in_ok-command.ensures c.in_ok-matches.ensures.matches in
    rw c.in_ok-refused-in-None.ensures.1 (λ taken order asked. none_asked words (sym same ∙ unmet_rows c.in_ok-matches.matches c.in-None.ensures.variant) order asked)
