use Rattle.std.proofs.Common.{◌≡◌, None}
use Rattle.serde_json.specs.View.{items_view}
use Rattle.mvd_keys.specs.State.{pairs_of}
use Rattle.mvd_http.specs.Pushed.{siblings_read}
use Rattle.mvd_http.proofs.Reading.{behind, left_from}
use Rattle.mvd_http.proofs.pushed.each_sibling_in.Given as goal

abbrev pub invariant-loop-value : goal.invariant-loop-value
invariant-loop-value l = behind (pairs_of l.siblings.items) (left_from l.seen l.values l.previous l.value-index) ≡ siblings_read l.seen None (items_view l.values)
