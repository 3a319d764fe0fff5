use Rattle.std.proofs.Common.{sym}
use Rattle.mvd_input.proofs.Refused.{no_keys}
use Rattle.mvd_input.proofs.command.keys_of.Goals as goal

pub returns-then-is_empty-clause-none : goal.returns-then-is_empty-clause-none
returns-then-is_empty-clause-none c = no_keys c.args.prefix.now (sym c.if-is_empty.ensures)
