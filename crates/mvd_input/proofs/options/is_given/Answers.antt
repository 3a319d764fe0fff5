use Rattle.std.proofs.Common.{◌∙◌}
use Rattle.clap.specs.Words.{found_of}
use Rattle.mvd_input.proofs.Ordered.{given_by}
use Rattle.mvd_input.proofs.options.is_given.Goals as goal

pub returns : goal.returns
returns c = c.is_word.ensures ∙ given_by (found_of c.args.matches.now) c.args.option.now c.value_source.result c.value_source.ensures
