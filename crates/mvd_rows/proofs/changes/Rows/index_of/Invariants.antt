use Rattle.std.proofs.Common.{◌≡◌, drop, map}
use Rattle.mvd_rows.specs.Defs.{has_index}
use Rattle.mvd_rows.specs.declared.index.Index.{Index}
use Rattle.mvd_rows.proofs.changes.Rows.index_of.Given as goal

abbrev pub invariant-loop-index : goal.invariant-loop-index
invariant-loop-index l = has_index (map (λ (index : Index). index.field) l.self.indexes.items) l.field ≡ has_index (map (λ (index : Index). index.field) (drop l.index-index l.index-items)) l.field
