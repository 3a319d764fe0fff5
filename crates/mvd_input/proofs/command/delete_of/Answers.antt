use Rattle.std.proofs.Common.{refl}
use Rattle.mvd_input.specs.Lines.{spaced}
use Rattle.mvd_input.proofs.Refused.{if_none, no_delete}
use Rattle.mvd_input.proofs.command.delete_of.Goals as goal

pub returns-in_err-last-clause-none : goal.returns-in_err-last-clause-none
returns-in_err-last-clause-none c key =
    if_none c.from_residual.result (no_delete (spaced c.args.key.now c.args.rest.now) c.args.key.now c.args.rest.now refl key c.in_err-last.ensures.none)
