use Rattle.std.proofs.Common.{◌≡◌, ◌∙◌, ap, false, map, refl}
use Rattle.std.proofs.lemmas.Result.{IfOk-weaker}
use Rattle.clap.specs.Words.{Rule, rule_of}
use Rattle.clap.specs.Simple.{app_of_fields}
use Rattle.mvd_input.specs.Words as spec
use Rattle.mvd_input.proofs.Commands.{adds_all, no_more, one_more}
use Rattle.mvd_input.proofs.command_words.sync_command.Goals as goal

abbrev spare : Rule → Rule
spare r = record r { required = false }

pub returns : goal.returns
returns c =
    let no_db : rule_of c.required.result ≡ spec.db = ap rule_of c.required.ensures ∙ ap spare c.db.ensures in
    let no_site : rule_of c.required-2.result ≡ spec.site = ap rule_of c.required-2.ensures ∙ ap spare c.site.ensures in
    let later = one_more c.with.ensures (one_more c.idle.ensures (one_more c.verbose.ensures (one_more c.token_file.ensures no_more))) in
    let rules = ap (map rule_of) c.in_ok-options.ensures.items ∙ one_more no_db (one_more no_site (one_more c.defs.ensures (one_more c.max_keys.ensures (one_more c.address.ensures (one_more c.port.ensures later))))) in
    IfOk-weaker c.args-2.result _ _ (λ r h. adds_all _ _ r _ _ h (ap app_of_fields c.override_usage.ensures ∙ c.named.ensures) rules refl) c.args-2.ensures
