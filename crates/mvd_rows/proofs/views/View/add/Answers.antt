use Rattle.std.proofs.Common.{rules, arith, Some, ◌≡◌, ◌+◌, ◌+ℤ◌, to_z, of_z, to_z-of_z, sym, ap, ◌∙◌, refl}
use Rattle.std.proofs.lemmas.Int.{ints}
use mir.Val.{SFits}
use mir.Syntax.{w64, w128}
use Rattle.mvd_rows.specs.Views.{widened}
use Rattle.mvd_rows.specs.Marks.{tally_of}
use Rattle.mvd_rows.specs.declared.views.Row.{Row}
use Rattle.mvd_rows.proofs.Room.{row_room, tally_room}
use Rattle.mvd_rows.proofs.Grouped.{none_come, plain_comes, whole_comes, same_ok}
use Rattle.mvd_rows.proofs.views.View.add.Goals as goal

pub overflow_add-row : goal.overflow_add-row
overflow_add-row c =
    let r = row_room c.args.self.now c.requires.0 c.requires.1.0 c.requires.1.1 c.in-Some.group in
    let few = r.count in
    let e = ap (λ (x : Row). x.count) c.row_or_none-old.ensures.row in
    omega arith

pub overflow_add-row-2 : goal.overflow_add-row-2
overflow_add-row-2 c =
    let r = row_room c.args.self.now c.requires.0 c.requires.1.0 c.requires.1.1 c.in-Some.group in
    let few = r.count in
    let e = ap (λ (x : Row). x.count) c.row_or_none-old.ensures.row in
    omega arith

pub overflow_add-row-3 : goal.overflow_add-row-3
overflow_add-row-3 c =
    let r = row_room c.args.self.now c.requires.0 c.requires.1.0 c.requires.1.1 c.in-Some.group in
    let low = r.low in
    let high = r.high in
    let fits : SFits w64 c.in-Some-whole.whole = search rules in
    let e = ap (λ (x : Row). x.sum) c.row_or_none-old.ensures.row in
    omega (arith, ints)

pub raise-requires : goal.raise-requires
raise-requires c =
    let fits : SFits w64 c.in-Some-whole.whole = search rules in
    simp to_z-of_z (tally_room c.args.self.now c.requires.0 c.requires.1.0 c.requires.1.1 (tally_of c.in_ok-copy.field-0 c.in-Some-whole.whole))

pub returns-in_default-clause-rows : goal.returns-in_default-clause-rows
returns-in_default-clause-rows c = λ visible spot is fresh. none_come _ visible spot c.args.document.now is fresh (same_ok _ _ c.in_ok-group.ensures ∙ c.in_default.is)

pub returns-in_default-whole-clause-rows : goal.returns-in_default-whole-clause-rows
returns-in_default-whole-clause-rows c = λ visible spot is fresh.
    plain_comes c.args.self.now _ visible spot c.args.document.now c.in-Some.group _ is fresh (same_ok _ _ c.in_ok-group.ensures ∙ c.in-Some.is) (sym c.in_default-whole.ensures)
    (record { name = refl; group = refl; sum = refl })
    (let e = c.row_or_none-old.ensures.row in
    let fits : SFits w128 c.row_or_none-old.result.sum = search rules in
    let same : to_z w128 (of_z w128 c.row_or_none-old.result.sum) ≡ c.row_or_none-old.result.sum = omega (arith, ints) in
    λ i. record { count = (e i).count + 1; sum = (same ∙ ap (λ (x : Row). x.sum) e) i; ends = (e i).ends })
    c.in_ok-put.ensures.updates refl

pub returns-clause-rows : goal.returns-clause-rows
returns-clause-rows c = λ visible spot is fresh.
    whole_comes c.args.self.now _ visible spot c.args.document.now c.in-Some.group c.in_ok-copy.field-0 c.in-Some-whole.whole _ (same_ok _ _ c.in_ok-copy.ensures) is fresh (same_ok _ _ c.in_ok-group.ensures ∙ c.in-Some.is) (sym c.in-Some-whole.ensures)
    (record { name = refl; group = refl; sum = refl })
    (let e = c.row_or_none-old.ensures.row in
    let r = row_room c.args.self.now c.requires.0 c.requires.1.0 c.requires.1.1 c.in-Some.group in
    let low = r.low in
    let high = r.high in
    let fits : SFits w128 c.row_or_none-old.result.sum = search rules in
    let small : SFits w64 c.in-Some-whole.whole = search rules in
    let f = ap (λ (x : Row). x.sum) e in
    let sums : to_z w128 (of_z w128 (to_z w128 (of_z w128 (to_z w64 (of_z w64 c.in-Some-whole.whole))) +ℤ to_z w128 (of_z w128 c.row_or_none-old.result.sum))) ≡ c.in-Some-whole.whole +ℤ c.row_or_none-old.result.sum = omega (arith, ints) in
    let ends : Some c.widened.result ≡ widened c.in-Some-whole.whole c.row_or_none-old.result.ends = simp to_z-of_z at c.widened.ensures in
    λ i. record { count = (e i).count + 1; sum = (sums ∙ ap (λ (x : Row). c.in-Some-whole.whole +ℤ x.sum) e) i; ends = (ends ∙ ap (λ (x : Row). widened c.in-Some-whole.whole x.ends) e) i })
    c.in_ok-put-2.ensures.updates (let small : SFits w64 c.in-Some-whole.whole = search rules in simp to_z-of_z at c.in_ok-raise.ensures.times)
