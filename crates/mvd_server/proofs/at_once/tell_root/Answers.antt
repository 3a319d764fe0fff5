use Rattle.std.proofs.Common.{◌∙◌, ◌++◌, ap}
use Rattle.std.proofs.lemmas.Result.{on_ok_weaker}
use Rattle.mvd_replica.specs.Replicas.{site_of}
use Rattle.mvd_server.specs.Errands.{root_text}
use Rattle.mvd_server.proofs.Answering.{tells_root}
use Rattle.mvd_server.proofs.at_once.tell_root.Goals as goal
use Rattle.mvd_web.specs.Inside.{web_of}

pub returns : goal.returns
returns g c =
    let site = site_of c.args.replica.now in
    let told = c.push_root_of-pushed.result in
    tells_root site told c.as_str.result.now (web_of c.args.web.now) (web_of c.tell_pushed.new.web)
    (on_ok_weaker told (λ it. (it.0, c.as_str.ensures.value ∙ it.1 ∙ ap (λ l. l ++ root_text site it.0) c.new-body.ensures.bytes)) c.push_root_of-pushed.ensures) c.tell_pushed.ensures
