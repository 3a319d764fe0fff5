use Rattle.mvd_input.proofs.Refused.{no_word_asked}
use Rattle.mvd_input.proofs.command.ask_of_word.Goals as goal

pub returns-in_default-clause-none : goal.returns-in_default-clause-none
returns-in_default-clause-none c one =
    let not = c.in_default in
    no_word_asked c.args.name.now c.args.word.now one not.not-get not.not-node not.not-rows not.not-keys
