use Rattle.std.proofs.Common.{◌≡◌, ℕ, ◌*◌, ◌<◌, ◌≤◌, get_or, length, map}
use Rattle.std.specs.List.{All}
use Rattle.std.specs.FinMap as fin_map
use Rattle.mvd_rows.specs.declared.marks.Spot.{Spot}
use Rattle.mvd_rows.specs.Changes.{before, moved}
use Rattle.mvd_rows.specs.Counted.{Within}
use Rattle.mvd_rows.specs.Stands.{IsViewOf, definition_of}
use Rattle.mvd_rows.specs.Visible.{Visible}
use Rattle.mvd_rows.specs.declared.views.View.{View}
use Rattle.mvd_rows.proofs.loops.change_rows.Given as goal

abbrev pub invariant-loop-view : goal.invariant-loop-view
invariant-loop-view l = record {
  rows : (visible : Visible) (spot : Spot) → All (λ view. IsViewOf view visible) l.fn.views.items → fin_map.get visible spot ≡ before l.way l.document →
      (k : ℕ) (d : View) → k < l.view-index → IsViewOf (get_or l.view-items k d) (moved l.way visible spot l.document);
  rest : (k : ℕ) (d : View) → l.view-index ≤ k → get_or l.view-items k d ≡ get_or l.fn.views.items k d;
  fields : map definition_of l.view-items ≡ map definition_of l.fn.views.items;
  len : length l.view-items ≡ length l.fn.views.items;
  counts : Within (2 * l.view-index) (4 * l.view-index) l.fn.meter l.meter;
}
