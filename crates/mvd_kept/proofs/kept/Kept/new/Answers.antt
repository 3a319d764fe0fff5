use Rattle.std.proofs.Common.{◌≡◌, sym, subst, ◌∙◌}
use Rattle.std.specs.FinMap.{empty}
use Rattle.mvd_rows.specs.Stands.{IsRowsOf}
use Rattle.mvd_kept.proofs.Digested.{keeps_none}
use Rattle.mvd_kept.proofs.kept.Kept.new.Goals as goal

pub invariant_of-kept : goal.invariant_of-kept
invariant_of-kept c =
    let copied : c.defs.result.now ≡ c.in_ok-copy.field-0 = cc (c.in_ok-copy.ensures) in
    keeps_none c.args.config c.new-3.result c.in_ok-tree.tree c.in_ok-rows.rows _ c.new-3.ensures c.in_ok-tree.ensures.ok
    (subst (λ d. IsRowsOf c.in_ok-rows.rows d empty) (sym copied ∙ c.defs.ensures) c.in_ok-rows.ensures.stands)
