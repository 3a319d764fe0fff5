use Rattle.std.proofs.Common.{None, Some, refl}
use Rattle.mvd_input.proofs.Refused.{none_typed}
use Rattle.mvd_input.proofs.command.typed_ask.Goals as goal

pub returns-in-Some-clause-none : goal.returns-in-Some-clause-none
returns-in-Some-clause-none c =
    none_typed c.args.text.now c.in-Some.name.now (Some c.in-Some.rest.now) c.in-Some.ensures.parts c.in-Some.ensures.word c.ask_of.result c.ask_of.ensures.none

pub returns-in-None-clause-none : goal.returns-in-None-clause-none
returns-in-None-clause-none c =
    none_typed c.args.text.now c.args.text.now None refl c.in-None.ensures.none c.ask_alone.result c.ask_alone.ensures.none
