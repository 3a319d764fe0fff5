use Rattle.std.proofs.Common.{arith}
use Rattle.mvd_input.proofs.Parting.{parts_by, word_by}
use Rattle.mvd_input.proofs.command.parted.Goals as goal

pub returns-clause-word : goal.returns-clause-word
returns-clause-word c = parts_by c.args.text.now c.split_once.result (c.split_once.ensures.byte (omega arith) (λ _ _ found. found))

pub returns-clause-none : goal.returns-clause-none
returns-clause-none c = word_by c.args.text.now c.split_once.result (c.split_once.ensures.byte (omega arith) (λ _ _ found. found))
