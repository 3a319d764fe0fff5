use Rattle.std.proofs.Common.{◌≡◌, map, take}
use Rattle.std.specs.FinMap.{empty}
use Rattle.std.specs.List.{All}
use Rattle.mvd_rows.specs.Stands.{IsViewOf, definition_of}
use Rattle.mvd_rows.proofs.building.new_views.Given as goal

abbrev pub invariant-loop-def : goal.invariant-loop-def
invariant-loop-def l = record {
  defs : map definition_of l.views.items ≡ take l.def-index l.defs;
  rows : All (λ view. IsViewOf view empty) l.views.items;
}
