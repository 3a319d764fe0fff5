use Rattle.std.proofs.Common.{◌∙◌, ◌==◌, ◌+◌, ◌≤◌, ℕ, List, Option, Result, length, take, ap, sym, subst, rules, tests, arith}
use Rattle.std.proofs.lemmas.Iterator.Splits.{YieldsList-from_slice_split}
use Rattle.std.proofs.lemmas.Iterator.Consumers.{YieldsList-turn, YieldsList-end}
use Rattle.std.proofs.lemmas.List.{length_push}
use Rattle.std.specs.Slice.Iter as slice
use Rattle.mvd_dots.specs.declared.refusals.Refusal.{Refusal}
use Rattle.mvd_wire.specs.declared.request.Request.{Request}
use Rattle.mvd_http.specs.Posted.{AreItems, IsLineItem, body_lines}
use Rattle.mvd_http.proofs.Lines.{all_lines, at_line, first_other, lines_are, one_more}
use Rattle.mvd_http.proofs.posted.items_of.Goals as goal

pub loop-line-preserved : goal.loop-line-preserved
loop-line-preserved c =
    let t = YieldsList-turn (YieldsList-from_slice_split {s = c.into_iter-line-iterator.result} _ (λ b. b == 10) c.without_last.result.now (ap slice.split_rest c.into_iter-line-iterator.ensures.into_iter_gives ∙ c.split-line-items.ensures.rest) (ap slice.split_done c.into_iter-line-iterator.ensures.into_iter_gives ∙ c.split-line-items.ensures.done) (ap slice.split_callee c.into_iter-line-iterator.ensures.into_iter_gives ∙ c.split-line-items.ensures.closure) (λ x r q k. search (rules, tests))) c.loop-line.yielded _ c.loop-line.yielded_by _ _ c.in-Some.line c.in-Some.is c.next.ensures.steps in
    let lines = body_lines c.args.body.now in
    let same = lines_are c.args.body.now c.without_last.result.now (sym c.is_empty.ensures ∙ c.if-is_empty.false) c.without_last.ensures in
    let Is : Option (Result Request Refusal) → Type 0 = λ o. IsLineItem c.args.form c.in-Some.line.now o in
    let is = subst Is c.in-Some-2.is c.in_ok-item.ensures.item in
    let more = one_more c.args.form lines (length c.loop-line.yielded) c.loop-line.items.items c.in-Some.line.now c.in-Some-2.item (at_line _ _ _ lines same t) c.loop-line.invariant is in
    let Are : ℕ → Type 0 = λ n. AreItems c.args.form (take n lines) c.push.new.self.items in
    let All : List (Result Request Refusal) → Type 0 = λ items. AreItems c.args.form (take (length c.loop-line.yielded + 1) lines) items in
    subst Are (sym (length_push c.loop-line.yielded c.in-Some.line)) (subst All (sym c.in_ok-push-in-Some-2.ensures.items) more)

pub returns-in-None-2-clause-items : goal.returns-in-None-2-clause-items
returns-in-None-2-clause-items c =
    let t = YieldsList-turn (YieldsList-from_slice_split {s = c.into_iter-line-iterator.result} _ (λ b. b == 10) c.without_last.result.now (ap slice.split_rest c.into_iter-line-iterator.ensures.into_iter_gives ∙ c.split-line-items.ensures.rest) (ap slice.split_done c.into_iter-line-iterator.ensures.into_iter_gives ∙ c.split-line-items.ensures.done) (ap slice.split_callee c.into_iter-line-iterator.ensures.into_iter_gives ∙ c.split-line-items.ensures.closure) (λ x r q k. search (rules, tests))) c.loop-line.yielded _ c.loop-line.yielded_by _ _ c.in-Some.line c.in-Some.is c.next.ensures.steps in
    let same = lines_are c.args.body.now c.without_last.result.now (sym c.is_empty.ensures ∙ c.if-is_empty.false) c.without_last.ensures in
    first_other c.args.form (body_lines c.args.body.now) (length c.loop-line.yielded) _ c.loop-line.items.items c.in-Some.line.now c.in_ok-item.field-0 (at_line _ _ _ (body_lines c.args.body.now) same t) c.loop-line.invariant (search (rules, arith)) c.in-None-2.is c.in_ok-item.ensures.item

pub returns-clause-items : goal.returns-clause-items
returns-clause-items c =
    let t = YieldsList-end (YieldsList-from_slice_split {s = c.into_iter-line-iterator.result} _ (λ b. b == 10) c.without_last.result.now (ap slice.split_rest c.into_iter-line-iterator.ensures.into_iter_gives ∙ c.split-line-items.ensures.rest) (ap slice.split_done c.into_iter-line-iterator.ensures.into_iter_gives ∙ c.split-line-items.ensures.done) (ap slice.split_callee c.into_iter-line-iterator.ensures.into_iter_gives ∙ c.split-line-items.ensures.closure) (λ x r q k. search (rules, tests))) c.loop-line.yielded _ c.loop-line.yielded_by _ _ c.in-None.is c.next.ensures.steps in
    let same = lines_are c.args.body.now c.without_last.result.now (sym c.is_empty.ensures ∙ c.if-is_empty.false) c.without_last.ensures in
    let ended : length (body_lines c.args.body.now) ≤ length c.loop-line.yielded = omega (arith, t.1, ap length same) in
    all_lines c.args.form (body_lines c.args.body.now) (length c.loop-line.yielded) c.loop-line.items.items ended c.loop-line.invariant
