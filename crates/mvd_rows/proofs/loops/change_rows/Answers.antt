use Rattle.std.proofs.Common.{rules, arith, length-set, ◌∙◌, ◌≡◌, ◌<◌, ◌≤◌, length, sym, subst}
use Rattle.std.specs.List.{All}
use Rattle.mvd_rows.specs.Changes.{moved}
use Rattle.mvd_rows.specs.Stands.{IsViewOf, definition_of}
use Rattle.mvd_rows.proofs.Counting.{within_next}
use Rattle.mvd_rows.proofs.Stepping.{same_definition, map_written, done_more, rest_less, written}
use Rattle.mvd_rows.proofs.loops.change_rows.Goals as goal

pub change-requires : goal.change-requires
change-requires c =
    let i = c.loop-view.view-index in
    let same = c.loop-view.invariant.len in
    let below : i < length c.args.views.now.items = omega arith in
    let self : i ≤ i = omega arith in
    (c.requires.0, c.requires.1, (subst (λ x. IsViewOf x c.requires.0) (sym (c.loop-view.invariant.rest i c.view-item.result self)) (c.requires.2.0 i c.view-item.result below), c.requires.2.1))

pub loop-view-preserved : goal.loop-view-preserved
loop-view-preserved c =
    let i = c.loop-view.view-index in
    let items = c.loop-view.view-items in
    let new = c.change.new.self in
    let at : i < length items = omega arith in
    let same = c.loop-view.invariant.len in
    let below : i < length c.args.views.now.items = omega (arith, at, same) in
    let self : i ≤ i = omega arith in
    record {
      rows = λ visible spot all can. done_more (λ x. IsViewOf x (moved c.args.way visible spot c.args.document.now)) items i new at
          (c.in_ok-change.ensures.rows visible spot (subst (λ x. IsViewOf x visible) (sym (c.loop-view.invariant.rest i c.view-item.result self)) (all i c.view-item.result below)) can)
          (c.loop-view.invariant.rows visible spot all can);
      rest = rest_less c.args.views.now.items items i new c.loop-view.invariant.rest;
      fields = map_written definition_of items i new c.view-item.result at (same_definition _ _ c.change.ensures.fields) ∙ c.loop-view.invariant.fields;
      len = length-set items i new ∙ same;
      counts = within_next i 2 4 _ _ _ c.loop-view.invariant.counts c.change.ensures.counts;
    }

pub returns-clause-rows : goal.returns-clause-rows
returns-clause-rows c = λ visible spot all can.
    let same = c.loop-view.invariant.len in
    let len : c.args.views.now.len ≡ length c.args.views.now.items = search rules in
    subst (λ xs. All (λ x. IsViewOf x (moved c.args.way visible spot c.args.document.now)) xs) (sym (written c.args.views.now.len c.loop-view.view-items c.args.views.now.items len same))
    (λ k d below. c.loop-view.invariant.rows visible spot all can k d (omega arith))
