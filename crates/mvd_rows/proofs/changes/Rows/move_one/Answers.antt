use Rattle.std.proofs.Common.{sym, ap, ◌∙◌, subst}
use Rattle.mvd_rows.specs.Changes.{before, moved}
use Rattle.mvd_rows.specs.Stands.{AreRowsOf}
use Rattle.mvd_rows.proofs.Grouped.{same_ok}
use Rattle.mvd_rows.proofs.changes.Rows.move_one.Goals as goal

pub change_rows-requires : goal.change_rows-requires
change_rows-requires c =
    let same = same_ok _ _ c.in_ok-parsed.ensures in
    (c.requires.0, c.args.spot.now, (c.requires.1.0.rows, (c.requires.1.1.0, c.requires.1.1.1 ∙ ap (before c.args.way) same)))

pub returns-clause-rows : goal.returns-clause-rows
returns-clause-rows c = λ visible are can.
    let same = same_ok _ _ c.in_ok-parsed.ensures in
    let can_move = can ∙ ap (before c.args.way) same in
    subst (λ document. AreRowsOf c.change_places.new.indexes.items c.change_rows.new.views.items (moved c.args.way visible c.args.spot.now document)) (sym same) (record {
      places = c.in_ok-change_places.ensures.places visible are.places can_move;
      rows = c.in_ok-change_rows.ensures.rows visible c.args.spot.now are.rows can_move;
    })
