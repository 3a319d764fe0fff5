use Rattle.std.proofs.Common.{◌∙◌, ap, refl, true}
use Rattle.std.proofs.lemmas.Result.{IfOk-weaker}
use Rattle.clap.specs.Simple.{app_of_fields, on_top}
use Rattle.mvd_input.specs.Words as spec
use Rattle.mvd_input.proofs.Commands.{adds_below, adds_made}
use Rattle.mvd_input.proofs.command_words.command.Goals as goal

pub returns : goal.returns
unfolding spec.program
returns c =
    let base = ap app_of_fields c.arg_required_else_help.ensures ∙ ap (on_top (λ s. record s { arg_required_else_help = true }))
    (ap app_of_fields c.subcommand_required.ensures ∙ ap (on_top (λ s. record s { subcommand_required = true }))
    (ap app_of_fields c.version.ensures ∙ ap (on_top (λ s. record s { has_version = true }))
    (ap app_of_fields c.after_help.ensures ∙ (ap app_of_fields c.about.ensures ∙ c.new.ensures.app)))) in
    let one = IfOk-weaker c.subcommand-command.result _ _ (λ r h. adds_below _ _ r _ _ h base c.named-sim.ensures refl) c.subcommand-command.ensures in
    let two = IfOk-weaker c.with_below-command.result _ _ (λ r h. adds_made _ _ r _ _ h one c.loop_command.ensures refl) c.with_below-command.ensures in
    let three = IfOk-weaker c.with_below-command-2.result _ _ (λ r h. adds_made _ _ r _ _ h two c.serve_command.ensures refl) c.with_below-command-2.ensures in
    let four = IfOk-weaker c.with_below-command-3.result _ _ (λ r h. adds_made _ _ r _ _ h three c.shell_command.ensures refl) c.with_below-command-3.ensures in
    IfOk-weaker c.with_below.result _ _ (λ r h. adds_made _ _ r _ _ h four c.sync_command.ensures refl) c.with_below.ensures
