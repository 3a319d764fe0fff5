use Rattle.std.proofs.Common.{◌≡◌, ◌+◌, ◌^◌, ◌≤◌, ◌∷◌, T, drop, length, false, refl, sym, ap, ◌∙◌, subst, arith}
use Rattle.std.proofs.lemmas.List.{length-map}
use Rattle.std.specs.FinMap.{get, is_sorted, len}
use Rattle.std.specs.FinMap.Entries.{below_all}
use Rattle.mvd_dots.specs.Dot.{dot_cmp}
use Rattle.mvd_keys.proofs.Parts.{holds}
use Rattle.mvd_keys.specs.State.{pair_of, pairs_of}
use Rattle.mvd_rows.specs.Changes.{CanMove, before, growth, is_among, moved, moved_all, not_among}
use Rattle.mvd_rows.specs.Stands.{AreRowsOf, definitions_of}
use Rattle.mvd_rows.specs.declared.changes.Rows.{Rows}
use Rattle.mvd_rows.specs.Visible.{Visible, spot}
use Rattle.mvd_rows.proofs.Counting.{Spent, each_is, spent_starts, spent_one, spent_same, spent_ends}
use Rattle.mvd_rows.proofs.Grouped.{same_ok}
use Rattle.mvd_rows.proofs.Reached.{Moving, moving_starts, moving_first, moving_moves, moving_stays, moving_ends, next_is, none_left, enough_room, one_counted, none_counted}
use Rattle.mvd_rows.proofs.Sorted.{second}
use Rattle.mvd_rows.proofs.changes.Rows.move_all.Goals as goal
use Rattle.mvd_rows.proofs.changes.Rows.move_all.Goals.{then-not-is_among+in_ok-copy+in_ok-move_one, else-not-is_among}

pub loop-sibling-init : goal.loop-sibling-init
loop-sibling-init c = record {
  moving = λ visible are can. moving_starts c.args.way c.args.self.now visible c.args.key.now _ _ are can;
  rising = holds _ c.requires.rising;
  defs = refl;
  indexes = refl;
  views = refl;
  conflicts = refl;
  counts = spent_starts _ _ _ _;
}

pub move_one-requires : goal.move_one-requires
move_one-requires c =
    let x = pair_of c.sibling-item.result in
    let way = c.args.way in
    let others = pairs_of c.args.others.now in
    let all = pairs_of c.args.siblings.now in
    let rest = pairs_of (drop (c.loop-sibling.sibling-index + 1) c.args.siblings.now) in
    let next = next_is c.args.siblings.now c.loop-sibling.sibling-index c.sibling-item.result (omega arith) c.sibling-item.is in
    let apart : is_among others x ≡ false = cc in
    let v = c.requires.room.0 in
    let aim = moved_all way v c.args.key.now (not_among others all) in
    let size : length all ≡ length c.args.siblings.now = length-map _ _ in
    let m : Moving way c.loop-sibling.self c.args.key.now others (x ∷ rest) (len v + growth way (length all)) aim =
    subst (λ es. Moving way c.loop-sibling.self c.args.key.now others es (len v + growth way (length all)) aim) next (c.loop-sibling.invariant.moving v c.requires.room.1.0 c.requires.room.1.2) in (
      m.now,
      (
        m.are,
        (
          enough_room way (len m.now) (length (x ∷ rest)) (len v + growth way (length all)) _ m.few (subst (λ n. len v + growth way n ≤ 2 ^ 40) (sym size) c.requires.room.1.1),
          subst (λ k. get m.now (spot k c.sibling-item.result.dot) ≡ before way c.sibling-item.result.document) (same_ok _ _ c.in_ok-copy.ensures)
              (moving_first way c.loop-sibling.self c.args.key.now others x rest _ aim m apart),
        ),
      ),
    )

pub loop-sibling-preserved : goal.loop-sibling-preserved
loop-sibling-preserved c =
    let x = pair_of c.sibling-item.result in
    let way = c.args.way in
    let others = pairs_of c.args.others.now in
    let all = pairs_of c.args.siblings.now in
    let key = c.args.key.now in
    let rest = pairs_of (drop (c.loop-sibling.sibling-index + 1) c.args.siblings.now) in
    let next = next_is c.args.siblings.now c.loop-sibling.sibling-index c.sibling-item.result (omega arith) c.sibling-item.is in
    let sorted : T (is_sorted dot_cmp (x ∷ rest)) = subst (λ es. T (is_sorted dot_cmp es)) next c.loop-sibling.invariant.rising in
    let aim : Visible → Visible = λ visible. moved_all way visible key (not_among others all) in
    let reached : (visible : Visible) → AreRowsOf c.args.self.now.indexes.items c.args.self.now.views.items visible → CanMove way visible key others all → Moving way c.loop-sibling.self key others (x ∷ rest) (len visible + growth way (length all)) (aim visible) =
    λ visible are can. subst (λ es. Moving way c.loop-sibling.self key others es (len visible + growth way (length all)) (aim visible)) next (c.loop-sibling.invariant.moving visible are can) in
    let spent = spent_same _ _ _ _ _ _ _ (ap (λ es. length (not_among others es)) next) c.loop-sibling.invariant.counts in
    elim c.if-not-is_among.branch [
      | then-not-is_among+in_ok-copy+in_ok-move_one w ↦
          let apart = sym w.if-not-is_among.ensures in
          let copied = same_ok _ _ w.in_ok-copy.ensures in
          let new = w.move_one.new.self in
          record {
            moving = λ visible are can.
                let m = reached visible are can in
                subst (λ s. Moving way s key others rest (len visible + growth way (length all)) (aim visible)) (sym w.self-is)
                (moving_moves way c.loop-sibling.self new key others x rest _ (aim visible) sorted apart m
                (subst (λ k. AreRowsOf new.indexes.items new.views.items (moved way m.now (spot k x.0) x.1)) (sym copied)
                (w.in_ok-move_one.ensures.rows m.now m.are (subst (λ k. get m.now (spot k x.0) ≡ before way x.1) copied (moving_first way c.loop-sibling.self key others x rest _ (aim visible) m apart)))));
            rising = second (below_all dot_cmp x.0 rest) _ sorted;
            defs = ap definitions_of w.self-is ∙ w.in_ok-move_one.ensures.defs ∙ c.loop-sibling.invariant.defs;
            indexes = ap (λ (s : Rows). length s.indexes.items) w.self-is ∙ w.move_one.ensures.indexes ∙ c.loop-sibling.invariant.indexes;
            views = ap (λ (s : Rows). length s.views.items) w.self-is ∙ w.move_one.ensures.views ∙ c.loop-sibling.invariant.views;
            conflicts = ap (λ (s : Rows). s.conflicts) w.self-is ∙ w.move_one.ensures.conflicts ∙ c.loop-sibling.invariant.conflicts;
            counts = subst (Spent _ _ _ _ _) (sym w.meter-is) (spent_one _ _ _ _ _ _ _ _ (one_counted others x rest apart) spent
                (each_is _ _ _ _ _ _ c.loop-sibling.invariant.indexes c.loop-sibling.invariant.views w.move_one.ensures.counts));
          }
      | else-not-is_among w ↦
          let stays = sym w.if-not-is_among.ensures in
          record {
            moving = λ visible are can. subst (λ s. Moving way s key others rest (len visible + growth way (length all)) (aim visible)) (sym w.self-is)
                (moving_stays way c.loop-sibling.self key others x rest _ (aim visible) sorted stays (reached visible are can));
            rising = second (below_all dot_cmp x.0 rest) _ sorted;
            defs = ap definitions_of w.self-is ∙ c.loop-sibling.invariant.defs;
            indexes = ap (λ (s : Rows). length s.indexes.items) w.self-is ∙ c.loop-sibling.invariant.indexes;
            views = ap (λ (s : Rows). length s.views.items) w.self-is ∙ c.loop-sibling.invariant.views;
            conflicts = ap (λ (s : Rows). s.conflicts) w.self-is ∙ c.loop-sibling.invariant.conflicts;
            counts = subst (Spent _ _ _ _ _) (sym w.meter-is) (spent_same _ _ _ _ _ _ _ (none_counted others x rest stays) spent);
          }
    ]

pub returns-clause-rows : goal.returns-clause-rows
returns-clause-rows c = λ visible are can.
    moving_ends c.args.way c.loop-sibling.self c.args.key.now _ _ _ _ (none_left c.args.siblings.now c.loop-sibling.sibling-index (omega arith)) (c.loop-sibling.invariant.moving visible are can)

pub returns-clause-counts : goal.returns-clause-counts
returns-clause-counts c = spent_ends _ _ _ _ _ _ c.loop-sibling.invariant.counts

pub returns-in_err-copy-clause-counts : goal.returns-in_err-copy-clause-counts
returns-in_err-copy-clause-counts c = spent_ends _ _ _ _ _ _ c.loop-sibling.invariant.counts

pub returns-in_err-move_one-clause-counts : goal.returns-in_err-move_one-clause-counts
returns-in_err-move_one-clause-counts c =
    let x = pair_of c.sibling-item.result in
    let others = pairs_of c.args.others.now in
    let rest = pairs_of (drop (c.loop-sibling.sibling-index + 1) c.args.siblings.now) in
    let next = next_is c.args.siblings.now c.loop-sibling.sibling-index c.sibling-item.result (omega arith) c.sibling-item.is in
    let apart : is_among others x ≡ false = cc in
    spent_ends _ _ _ _ _ _ (spent_one _ _ _ _ _ _ _ _ (ap (λ es. length (not_among others es)) next ∙ one_counted others x rest apart) c.loop-sibling.invariant.counts
    (each_is _ _ _ _ _ _ c.loop-sibling.invariant.indexes c.loop-sibling.invariant.views c.move_one.ensures.counts))
