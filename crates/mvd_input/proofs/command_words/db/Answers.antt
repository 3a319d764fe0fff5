use Rattle.std.proofs.Common.{◌∙◌, ap}
use Rattle.clap.specs.Words.{rule_of}
use Rattle.mvd_input.specs.Words as spec
use Rattle.mvd_input.proofs.command_words.db.Goals as goal

pub returns : goal.returns
returns c = ap rule_of c.required.ensures ∙ ap spec.needed c.text.ensures
