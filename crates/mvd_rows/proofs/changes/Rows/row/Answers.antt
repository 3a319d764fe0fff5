use Rattle.std.proofs.Common.{rules, to_z-of_z}
use mir.Val.{SFits}
use mir.Syntax.{w128}
use Rattle.mvd_rows.specs.Visible.{visible_in}
use Rattle.mvd_rows.proofs.Asking.{row_some}
use Rattle.mvd_rows.proofs.changes.Rows.row.Goals as goal

pub returns-clause-row : goal.returns-clause-row
returns-clause-row c = λ defs states stands.
    let fits : SFits w128 c.row_or_none-row.result.sum = search rules in
    simp to_z-of_z (row_some c.args.self.now defs states stands c.in-Some.view.now c.args.name.now c.args.term.now _
    c.in-Some.ensures.named
    (c.row_or_none-row.ensures.is (visible_in states) (c.in-Some.ensures.rows (visible_in states) stands.rows)))
