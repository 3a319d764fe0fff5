use Rattle.mvd_input.proofs.Refused.{if_none, not_typed}
use Rattle.mvd_input.proofs.command.typed_of.Goals as goal

pub returns-in_err-typed_ask-in_default-clause-none : goal.returns-in_err-typed_ask-in_default-clause-none
returns-in_err-typed_ask-in_default-clause-none c =
    if_none c.from_residual.result (not_typed c.args.text.now c.in_default.not-help c.in_default.not-root c.in_err-typed_ask-in_default.ensures.none)
