use Rattle.std.proofs.Common.{◌≡◌, drop, map}
use Rattle.mvd_rows.specs.Answers.{view_named}
use Rattle.mvd_rows.specs.Stands.{definition_of}
use Rattle.mvd_rows.proofs.changes.Rows.view_of.Given as goal

abbrev pub invariant-loop-view : goal.invariant-loop-view
invariant-loop-view l = view_named (map definition_of l.self.views.items) l.name ≡ view_named (map definition_of (drop l.view-index l.view-items)) l.name
