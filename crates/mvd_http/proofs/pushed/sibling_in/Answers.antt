use Rattle.serde_json.specs.View.{view}
use Rattle.mvd_http.proofs.Reading.{sibling_nests}
use Rattle.mvd_http.proofs.pushed.sibling_in.Goals as goal

pub document_in-requires : goal.document_in-requires
document_in-requires c = sibling_nests c.in-Some.line (view c.args.value.now) c.in-Some.ensures c.requires
