use Rattle.std.proofs.Common.{None, Some, refl}
use Rattle.mvd_input.proofs.Refused.{if_none, no_command, no_command_alone, no_number}
use Rattle.mvd_input.proofs.command.at_of.Goals as goal

pub returns-in_err-number_of-in-Some-clause-none : goal.returns-in_err-number_of-in-Some-clause-none
returns-in_err-number_of-in-Some-clause-none c =
    let at = c.in-Some in
    if_none c.from_residual.result (no_number c.args.rest.now at.site.now (Some at.rest.now) at.ensures.parts at.ensures.word c.in_err-number_of-in-Some.ensures.none c.args.name.now)

pub returns-in_err-command_of-in-Some-clause-none : goal.returns-in_err-command_of-in-Some-clause-none
returns-in_err-command_of-in-Some-clause-none c =
    let at = c.in-Some in
    if_none c.from_residual-in_err-command_of-in-Some.result (no_command c.args.rest.now at.site.now (Some at.rest.now) at.ensures.parts at.ensures.word c.args.name.now c.in_err-command_of-in-Some.ensures.none)

pub returns-in_err-number_of-in-None-clause-none : goal.returns-in_err-number_of-in-None-clause-none
returns-in_err-number_of-in-None-clause-none c =
    if_none c.from_residual-in_err-number_of-in-None.result (no_number c.args.rest.now c.args.rest.now None refl c.in-None.ensures.none c.in_err-number_of-in-None.ensures.none c.args.name.now)

pub returns-in_err-ask_alone-in-None-clause-none : goal.returns-in_err-ask_alone-in-None-clause-none
returns-in_err-ask_alone-in-None-clause-none c =
    if_none c.from_residual-in_err-ask_alone-in-None.result (no_command c.args.rest.now c.args.rest.now None refl c.in-None.ensures.none c.args.name.now (no_command_alone c.args.name.now c.in_err-ask_alone-in-None.ensures.none))
