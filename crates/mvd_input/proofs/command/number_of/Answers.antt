use Rattle.std.proofs.Common.{◌∙◌, subst, sym, true≢false}
use Rattle.mvd_input.specs.Lines.{IsPadded}
use Rattle.mvd_input.proofs.Numbers.{found_by, none_by, written_is_plain}
use Rattle.mvd_input.proofs.command.number_of.Goals as goal

pub returns-then-is_padded-clause-none : goal.returns-then-is_padded-clause-none
returns-then-is_padded-clause-none c number spelled =
    written_is_plain c.args.text.now number spelled.1 spelled.0 (subst IsPadded c.as_bytes.ensures.value (c.is_padded.ensures.0 c.if-is_padded.true))

pub returns-clause-found : goal.returns-clause-found
returns-clause-found c = found_by c.args.text.now c.parse.result c.ok.result
    (λ padded. true≢false (sym (c.is_padded.ensures.1 (subst IsPadded (sym c.as_bytes.ensures.value) padded)) ∙ c.if-is_padded.false)) c.parse.ensures.value.0 c.ok.ensures.value

pub returns-clause-none : goal.returns-clause-none
returns-clause-none c = none_by c.args.text.now c.parse.result c.ok.result c.parse.ensures.value.0 c.ok.ensures.value
