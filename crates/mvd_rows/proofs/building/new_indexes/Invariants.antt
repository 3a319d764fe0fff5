use Rattle.std.proofs.Common.{◌≡◌, map, take}
use Rattle.std.specs.FinMap.{empty}
use Rattle.std.specs.List.{All}
use Rattle.mvd_rows.specs.Stands.{IsIndexOf}
use Rattle.mvd_rows.specs.declared.index.Index.{Index}
use Rattle.mvd_rows.proofs.building.new_indexes.Given as goal

abbrev pub invariant-loop-field : goal.invariant-loop-field
invariant-loop-field l = record {
  fields : map (λ (index : Index). index.field) l.indexes.items ≡ take l.field-index l.fields;
  places : All (λ index. IsIndexOf index empty) l.indexes.items;
}
