use Rattle.std.proofs.Common.{◌∙◌, ap, map, refl}
use Rattle.std.proofs.lemmas.Result.{IfOk-weaker}
use Rattle.clap.specs.Words.{rule_of}
use Rattle.mvd_input.proofs.Commands.{adds_all, no_more, one_more}
use Rattle.mvd_input.proofs.command_words.serve_command.Goals as goal

pub returns : goal.returns
returns c =
    let later = one_more c.peer.ensures (one_more c.every.ensures (one_more c.host.ensures (one_more c.origin.ensures (one_more c.quiet.ensures (one_more c.token_file.ensures no_more))))) in
    let rules = ap (map rule_of) c.in_ok-options.ensures.items ∙ one_more c.db.ensures (one_more c.site.ensures (one_more c.defs.ensures (one_more c.max_keys.ensures (one_more c.address.ensures (one_more c.port.ensures (one_more c.http.ensures (one_more c.conns.ensures (one_more c.idle.ensures (one_more c.clients.ensures later))))))))) in
    IfOk-weaker c.args-2.result _ _ (λ r h. adds_all _ _ r _ _ h c.named.ensures rules refl) c.args-2.ensures
