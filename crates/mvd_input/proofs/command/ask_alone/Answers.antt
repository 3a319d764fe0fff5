use Rattle.mvd_input.proofs.Refused.{no_alone}
use Rattle.mvd_input.proofs.command.ask_alone.Goals as goal

pub returns-in_default-clause-none : goal.returns-in_default-clause-none
returns-in_default-clause-none c = no_alone c.args.name.now c.in_default.not-keys c.in_default.not-conflicts
