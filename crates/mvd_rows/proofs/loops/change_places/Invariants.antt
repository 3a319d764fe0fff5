use Rattle.std.proofs.Common.{◌≡◌, ℕ, ◌*◌, ◌<◌, ◌≤◌, get_or, length, map}
use Rattle.std.specs.List.{All}
use Rattle.std.specs.FinMap as fin_map
use Rattle.mvd_rows.specs.Changes.{before, moved}
use Rattle.mvd_rows.specs.Counted.{Within}
use Rattle.mvd_rows.specs.Stands.{IsIndexOf}
use Rattle.mvd_rows.specs.Visible.{Visible}
use Rattle.mvd_rows.specs.declared.index.Index.{Index}
use Rattle.mvd_rows.proofs.loops.change_places.Given as goal

abbrev pub invariant-loop-index : goal.invariant-loop-index
invariant-loop-index l = record {
  places : (visible : Visible) → All (λ index. IsIndexOf index visible) l.fn.indexes.items → fin_map.get visible l.spot ≡ before l.way l.document →
      (k : ℕ) (d : Index) → k < l.index-index → IsIndexOf (get_or l.index-items k d) (moved l.way visible l.spot l.document);
  rest : (k : ℕ) (d : Index) → l.index-index ≤ k → get_or l.index-items k d ≡ get_or l.fn.indexes.items k d;
  fields : map (λ (x : Index). x.field) l.index-items ≡ map (λ (x : Index). x.field) l.fn.indexes.items;
  len : length l.index-items ≡ length l.fn.indexes.items;
  counts : Within (1 * l.index-index) (0 * l.index-index) l.fn.meter l.meter;
}
