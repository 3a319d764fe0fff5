use Rattle.std.proofs.Common.{◌∙◌, ap, subst}
use Rattle.mvd_input.specs.Lines.{IsWord, spaced}
use Rattle.mvd_input.proofs.Parting.{spaced_is_no_word}
use Rattle.mvd_input.proofs.Refused.{if_none, no_view}
use Rattle.mvd_input.proofs.command.view_of.Goals as goal

pub returns-in_err-name-clause-none : goal.returns-in_err-name-clause-none
returns-in_err-name-clause-none c =
    if_none c.from_residual.result (λ view spelled. spaced_is_no_word view.name.now (spaced view.group.now view.sum.now) (subst IsWord spelled.0 c.in_err-name.ensures.none))

pub returns-in_err-group-clause-none : goal.returns-in_err-group-clause-none
returns-in_err-group-clause-none c =
    if_none c.from_residual-in_err-group.result (no_view c.args.rest.now c.in_ok-name.name.now c.in_ok-name.rest.now c.in_ok-name.ensures.parts c.in_ok-name.ensures.word c.in_err-group.ensures.none)

pub returns-clause-found : goal.returns-clause-found
returns-clause-found c = (
  c.in_ok-name.ensures.parts ∙ ap (spaced c.in_ok-name.name.now) c.in_ok-group.ensures.parts,
  c.in_ok-name.ensures.word,
  c.in_ok-group.ensures.word,
)
