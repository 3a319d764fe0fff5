use Rattle.serde_json.specs.View.{view}
use Rattle.mvd_http.proofs.Lines.{nests_no_deeper}
use Rattle.mvd_http.proofs.posted.write_if.Goals as goal

pub write_in-requires : goal.write_in-requires
write_in-requires c = nests_no_deeper c.in-Some.line (view c.args.value.now) c.in-Some.ensures c.requires
