use Rattle.mvd_input.proofs.Refused.{no_parts_asked}
use Rattle.mvd_input.proofs.command.ask_of_parts.Goals as goal

pub returns-in_default-clause-none : goal.returns-in_default-clause-none
returns-in_default-clause-none c _ =
    let not = c.in_default in
    no_parts_asked c.args.name.now c.args.first.now c.args.behind.now not.not-put not.not-del not.not-row not.not-find not.not-range
