use Rattle.std.proofs.Common.{◌∙◌, ap, Some, codes}
use Rattle.clap.specs.Words.{Rule, rule_of}
use Rattle.clap.specs.declared.builder.action.ArgAction.TheVariants.{SetTrue}
use Rattle.mvd_input.proofs.command_words.quiet.Goals as goal

abbrev called : Rule → Rule
called r = record r { long = Some (codes "quiet") }

abbrev set : Rule → Rule
set r = record r { action = Some SetTrue }

pub returns : goal.returns
returns c =
    ap rule_of c.help.ensures ∙ (ap rule_of c.action.ensures ∙ ap set (ap rule_of c.long.ensures ∙ ap called c.new.ensures.rule))
