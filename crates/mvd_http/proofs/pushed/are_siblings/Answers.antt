use Rattle.std.proofs.Common.{◌∙◌, ◌+◌, ap, drop, sym}
use Rattle.std.specs.Prelude.{◌&&◌}
use Rattle.std.proofs.lemmas.List.{at_drop_all}
use Rattle.serde_json.specs.View.{items_view}
use Rattle.mvd_http.specs.Pushed.{are_siblings as siblings_all}
use Rattle.mvd_http.proofs.Reading.{form_next}
use Rattle.mvd_http.proofs.pushed.are_siblings.Goals as goal

pub loop-value-preserved : goal.loop-value-preserved
loop-value-preserved c =
    ap (λ b. b && siblings_all (items_view (drop (c.loop-value.value-index + 1) c.args.values.now))) (sym (sym c.is_sibling.ensures ∙ c.if-not-is_sibling.false))
    ∙ sym (form_next c.args.values.now c.loop-value.value-index c.value-item.result c.loop-value-test.true c.value-item.is) ∙ c.loop-value.invariant

pub returns-then-not-is_sibling : goal.returns-then-not-is_sibling
returns-then-not-is_sibling c =
    sym (ap (λ b. b && siblings_all (items_view (drop (c.loop-value.value-index + 1) c.args.values.now))) (sym c.is_sibling.ensures ∙ c.if-not-is_sibling.true))
    ∙ sym (form_next c.args.values.now c.loop-value.value-index c.value-item.result c.loop-value-test.true c.value-item.is) ∙ c.loop-value.invariant

pub returns : goal.returns
returns c = sym (at_drop_all (λ vs. siblings_all (items_view vs)) c.args.values.now c.loop-value.value-index c.loop-value-test.false) ∙ c.loop-value.invariant
