use Rattle.std.proofs.Common.{◌≡◌, ◌∙◌, ap, ap₂, Option, Some}
use Rattle.clap.specs.Words.{Rule, rule_of}
use Rattle.clap.specs.declared.builder.value_parser.ValueParser.{ValueParser}
use Rattle.clap.specs.declared.builder.value_parser.ValueParser.TheVariants.{Unsigned}
use Rattle.mvd_input.proofs.command_words.number.Goals as goal

abbrev parsed : Rule → Option ValueParser → Rule
parsed r parser = record r { parser = parser }

pub returns : goal.returns
returns c =
    let given = c.value_parser-2.ensures.given in
    let parser : c.value_parser-2.result.value_parser ≡ Some (Unsigned 0 18446744073709551615) = cc (given.1, given.2, c.value_parser.ensures) in
    ap rule_of c.value_parser-2.ensures.others ∙ ap₂ parsed c.text.ensures parser
