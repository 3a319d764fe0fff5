use Rattle.std.proofs.Common.{◌≡◌, ◌+◌, ◌*◌, drop, length, T}
use Rattle.std.specs.FinMap.{len}
use Rattle.std.specs.FinMap.{is_sorted}
use Rattle.mvd_dots.specs.Dot.{dot_cmp}
use Rattle.mvd_keys.specs.State.{pairs_of}
use Rattle.mvd_rows.specs.Changes.{CanMove, growth, moved_all, not_among}
use Rattle.mvd_rows.specs.Stands.{AreRowsOf, definitions_of}
use Rattle.mvd_rows.specs.Visible.{Visible}
use Rattle.mvd_rows.proofs.Counting.{Spent}
use Rattle.mvd_rows.proofs.Reached.{Moving}
use Rattle.mvd_rows.proofs.changes.Rows.move_all.Given as goal

abbrev pub invariant-loop-sibling : goal.invariant-loop-sibling
invariant-loop-sibling l = record {
  moving : (visible : Visible) → AreRowsOf l.fn.self.indexes.items l.fn.self.views.items visible → CanMove l.way visible l.key (pairs_of l.others) (pairs_of l.siblings) →
      Moving l.way l.self l.key (pairs_of l.others) (pairs_of (drop l.sibling-index l.siblings)) (len visible + growth l.way (length (pairs_of l.siblings))) (moved_all l.way visible l.key (not_among (pairs_of l.others) (pairs_of l.siblings)));
  rising : T (is_sorted dot_cmp (pairs_of (drop l.sibling-index l.siblings)));
  defs : definitions_of l.self ≡ definitions_of l.fn.self;
  indexes : length l.self.indexes.items ≡ length l.fn.self.indexes.items;
  views : length l.self.views.items ≡ length l.fn.self.views.items;
  conflicts : l.self.conflicts ≡ l.fn.self.conflicts;
  counts : Spent (length (not_among (pairs_of l.others) (pairs_of (drop l.sibling-index l.siblings)))) (length (not_among (pairs_of l.others) (pairs_of l.siblings)))
      (length l.fn.self.indexes.items + 2 * length l.fn.self.views.items) (4 * length l.fn.self.views.items) l.fn.meter l.meter;
}
