use Rattle.mvd_input.proofs.Refused.{if_none, no_line}
use Rattle.mvd_input.proofs.command.line_of.Goals as goal

pub returns-in_err-site-in_default-clause-none : goal.returns-in_err-site-in_default-clause-none
returns-in_err-site-in_default-clause-none c =
    let at = c.in_ok-name in
    let not = c.in_default in
    if_none c.from_residual-in_err-site-in_default.result (no_line c.args.text.now at.name.now at.rest.now at.ensures.parts at.ensures.word not.not-sites not.not-max not.not-index not.not-view not.not-root c.in_err-site-in_default.ensures.none)
