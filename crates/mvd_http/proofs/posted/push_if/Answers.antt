use Rattle.serde_json.specs.View.{view}
use Rattle.mvd_http.proofs.Reading.{state_nests}
use Rattle.mvd_http.proofs.posted.push_if.Goals as goal

pub push_in-requires : goal.push_in-requires
push_in-requires c = state_nests c.in-Some.line (view c.args.value.now) c.in-Some.ensures c.requires
