use Rattle.std.proofs.Common.{◌++◌, ◌∷◌, [], map, take, sym, ap, ◌∙◌, subst, arith}
use Rattle.std.proofs.lemmas.List.{map-append, take_more}
use Rattle.std.proofs.lemmas.List.Elements.{All-push}
use Rattle.std.specs.FinMap.{empty}
use Rattle.std.specs.List.{All}
use Rattle.mvd_rows.specs.Stands.{IsViewOf, definition_of}
use Rattle.mvd_rows.proofs.Grouped.{same_ok}
use Rattle.mvd_rows.proofs.building.new_views.Goals as goal

pub loop-def-preserved : goal.loop-def-preserved
loop-def-preserved c = record {
  defs = ap (map definition_of) c.in_ok-push.ensures.items ∙ map-append definition_of c.loop-def.views.items _
      ∙ ap (λ xs. xs ++ definition_of c.new.result ∷ []) c.loop-def.invariant.defs
      ∙ ap (λ d. take c.loop-def.def-index c.args.defs.now ++ d ∷ []) (c.new.ensures.def ∙ sym (same_ok _ _ c.in_ok-copy.ensures) ∙ c.def-item.is)
      ∙ sym (take_more c.args.defs.now c.loop-def.def-index c.def-item.result (omega arith));
  rows = subst (All (λ view. IsViewOf view empty)) (sym c.in_ok-push.ensures.items) (All-push (λ view. IsViewOf view empty) c.loop-def.views.items c.new.result c.loop-def.invariant.rows c.new.ensures.rows);
}
