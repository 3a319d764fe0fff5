use Rattle.std.proofs.Common.{◌∙◌, ◌++◌, ap, string_bytes}
use Rattle.std.proofs.lemmas.Result.{on_ok_weaker}
use Rattle.mvd_host.proofs.Changing.{root_is}
use Rattle.mvd_replica.specs.Replicas.{site_of}
use Rattle.mvd_server.proofs.Sinces.{root_told}
use Rattle.mvd_server.proofs.at_once.push_root_of.Goals as goal

pub returns : goal.returns
returns g c =
    let site = site_of c.args.replica.now in
    on_ok_weaker c.push_root.result
    (λ e. (
      c.in_ok-found.found.live,
      e ∙ ap (λ text. string_bytes c.args.body.now ++ text)
          (root_told site c.in_ok-digest.digest _ _ c.in_ok-found.found.live _ (root_is site c.in_ok-digest.digest c.in_ok-digest.ensures.0) (c.from.ensures ∙ c.key_count.ensures.count) (c.from-2.ensures ∙ c.conflict_count.ensures.count) (c.site-2.ensures.site ∙ ap (λ config. config.site) c.config.ensures)),
    ))
    c.push_root.ensures.text
