use Rattle.std.proofs.Common.{◌∙◌, ◌++◌, [], ap, false}
use Rattle.std.proofs.lemmas.Result.{on_ok_weaker}
use Rattle.mvd_http.specs.Json.{changes_text}
use Rattle.mvd_server.specs.Talking.{talking_of}
use Rattle.mvd_server.proofs.Answering.{none_news}
use Rattle.mvd_server.proofs.talks.Talks.tell_none.Goals as goal

pub returns : goal.returns
returns c = λ site.
    let root = c.args.root in
    let told = c.push_changes-pushed.result in
    c.tell_waiting.ensures.deeds site (none_news site (talking_of c.args.self.now) c.args.number told root c.as_str.result.now
    (on_ok_weaker told (λ e. c.as_str.ensures.value ∙ e ∙ ap (λ l. l ++ changes_text root [] false) c.new-body.ensures.bytes) c.push_changes-pushed.ensures.text))
