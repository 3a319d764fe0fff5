use Rattle.std.proofs.Common.{◌≡◌, drop}
use Rattle.serde_json.specs.View.{items_view}
use Rattle.mvd_http.specs.Pushed.{are_siblings as siblings_all}
use Rattle.mvd_http.proofs.pushed.are_siblings.Given as goal

abbrev pub invariant-loop-value : goal.invariant-loop-value
invariant-loop-value l = siblings_all (items_view (drop l.value-index l.values)) ≡ siblings_all (items_view l.values)
