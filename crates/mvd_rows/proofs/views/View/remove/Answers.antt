use Rattle.std.proofs.Common.{rules, arith, ◌≡◌, ◌-◌, ◌-ℤ◌, to_z, of_z, to_z-of_z, sym, ap, ◌∙◌}
use Rattle.std.proofs.lemmas.Int.{ints}
use mir.Val.{SFits}
use mir.Syntax.{w64, w128}
use Rattle.mvd_rows.specs.declared.views.Row.{Row}
use Rattle.mvd_rows.proofs.Room.{row_room}
use Rattle.mvd_rows.proofs.Grouped.{same_ok}
use Rattle.mvd_rows.proofs.Going.{none_go, plain_goes, whole_goes, row_counts}
use Rattle.mvd_rows.proofs.views.View.remove.Goals as goal

pub overflow_sub-row : goal.overflow_sub-row
overflow_sub-row c =
    let r = row_counts c.args.self.now c.requires.0 c.requires.1 c.args.document.now c.in-Some.group c.requires.2.0 c.requires.2.1.1 (same_ok _ _ c.in_ok-group.ensures ∙ c.in-Some.is) in
    let e = ap (λ (x : Row). x.count) c.row_or_none-old.ensures.row in
    omega arith

pub overflow_sub-row-2 : goal.overflow_sub-row-2
overflow_sub-row-2 c =
    let r = row_counts c.args.self.now c.requires.0 c.requires.1 c.args.document.now c.in-Some.group c.requires.2.0 c.requires.2.1.1 (same_ok _ _ c.in_ok-group.ensures ∙ c.in-Some.is) in
    let e = ap (λ (x : Row). x.count) c.row_or_none-old.ensures.row in
    omega arith

pub overflow_sub-row-3 : goal.overflow_sub-row-3
overflow_sub-row-3 c =
    let r = row_room c.args.self.now c.requires.0 c.requires.2.0 c.requires.2.1.0 c.in-Some.group in
    let low = r.low in
    let high = r.high in
    let fits : SFits w64 c.in-Some-whole.whole = search rules in
    let e = ap (λ (x : Row). x.sum) c.row_or_none-old.ensures.row in
    omega (arith, ints)

pub returns-in_default-clause-rows : goal.returns-in_default-clause-rows
returns-in_default-clause-rows c = λ visible spot is here. none_go _ visible spot c.args.document.now is here (same_ok _ _ c.in_ok-group.ensures ∙ c.in_default.is)

pub returns-in_default-whole-clause-rows : goal.returns-in_default-whole-clause-rows
returns-in_default-whole-clause-rows c = λ visible spot is here.
    let e = c.row_or_none-old.ensures.row in
    let fits : SFits w128 c.row_or_none-old.result.sum = search rules in
    let same : to_z w128 (of_z w128 c.row_or_none-old.result.sum) ≡ c.row_or_none-old.result.sum = omega (arith, ints) in
    plain_goes c.args.self.now _ visible spot c.args.document.now c.in-Some.group _ is here (same_ok _ _ c.in_ok-group.ensures ∙ c.in-Some.is) (sym c.in_default-whole.ensures)
    c.set_row.ensures.fields (ap (λ (x : Row). x.count - 1) e) (same ∙ ap (λ (x : Row). x.sum) e) (ap (λ (x : Row). x.ends) e)
    c.in_ok-set_row.ensures.row c.set_row.ensures.tallies

pub returns-clause-rows : goal.returns-clause-rows
returns-clause-rows c = λ visible spot is here.
    let e = c.row_or_none-old.ensures.row in
    let r = row_room c.args.self.now c.requires.0 c.requires.2.0 c.requires.2.1.0 c.in-Some.group in
    let low = r.low in
    let high = r.high in
    let fits : SFits w128 c.row_or_none-old.result.sum = search rules in
    let small : SFits w64 c.in-Some-whole.whole = search rules in
    let f = ap (λ (x : Row). x.sum) e in
    let sums : to_z w128 (of_z w128 (to_z w128 (of_z w128 c.row_or_none-old.result.sum) -ℤ to_z w128 (of_z w128 (to_z w64 (of_z w64 c.in-Some-whole.whole))))) ≡ c.row_or_none-old.result.sum -ℤ c.in-Some-whole.whole = omega (arith, ints) in
    let g = c.set_row-2.ensures.fields in
    whole_goes c.args.self.now c.set_row-2.new.self c.lower.new.self visible spot c.args.document.now c.in-Some.group c.in_ok-copy.field-0 c.in-Some-whole.whole _ c.set_row-2.ensures.tallies (same_ok _ _ c.in_ok-copy.ensures)
    is here (same_ok _ _ c.in_ok-group.ensures ∙ c.in-Some.is) (sym c.in-Some-whole.ensures) (record { name = g.name; group = g.group; sum = g.sum })
    (ap (λ (x : Row). x.count - 1) e) (sums ∙ ap (λ (x : Row). x.sum -ℤ c.in-Some-whole.whole) e) c.in_ok-ends.ensures.ends c.in_ok-set_row-2.ensures.row
    (simp to_z-of_z at c.in_ok-lower.ensures.times)
