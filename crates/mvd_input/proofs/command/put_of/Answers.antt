use Rattle.std.proofs.Common.{refl}
use Rattle.mvd_input.specs.Lines.{spaced}
use Rattle.mvd_input.proofs.Refused.{if_none, no_put}
use Rattle.mvd_input.proofs.command.put_of.Goals as goal

pub returns-in_err-context-clause-none : goal.returns-in_err-context-clause-none
returns-in_err-context-clause-none c key =
    if_none c.from_residual.result (no_put (spaced c.args.key.now c.args.rest.now) c.args.key.now c.args.rest.now refl key c.in_err-context.ensures.none)
