use Rattle.std.proofs.Common.{◌<◌, ◌≤◌, length, arith, length-set, ◌∙◌, sym, subst}
use Rattle.mvd_rows.specs.Changes.{moved}
use Rattle.mvd_rows.specs.declared.index.Index.{Index}
use Rattle.mvd_rows.specs.Stands.{IsIndexOf}
use Rattle.mvd_rows.proofs.Counting.{within_next}
use Rattle.mvd_rows.proofs.Stepping.{map_written, done_more, rest_less}
use Rattle.mvd_rows.proofs.loops.change_places.Goals as goal

pub loop-index-preserved : goal.loop-index-preserved
loop-index-preserved c =
    let i = c.loop-index.index-index in
    let items = c.loop-index.index-items in
    let new = c.change.new.self in
    let at : i < length items = omega arith in
    let same = c.loop-index.invariant.len in
    let below : i < length c.args.indexes.now.items = omega (arith, at, same) in
    let self : i ≤ i = omega arith in
    record {
      places = λ visible all can. done_more (λ x. IsIndexOf x (moved c.args.way visible c.args.spot.now c.args.document.now)) items i new at
          (c.in_ok-change.ensures.places visible (subst (λ x. IsIndexOf x visible) (sym (c.loop-index.invariant.rest i c.index-item.result self)) (all i c.index-item.result below)) can)
          (c.loop-index.invariant.places visible all can);
      rest = rest_less c.args.indexes.now.items items i new c.loop-index.invariant.rest;
      fields = map_written (λ (x : Index). x.field) items i new c.index-item.result at c.change.ensures.field ∙ c.loop-index.invariant.fields;
      len = length-set items i new ∙ same;
      counts = within_next i 1 0 _ _ _ c.loop-index.invariant.counts c.change.ensures.counts;
    }
