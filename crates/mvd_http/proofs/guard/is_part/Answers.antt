use Rattle.std.proofs.Common.{◌≡◌, ℕ, ◌+◌, ◌<◌, ◌==◌, ◌||◌, List, length, get_or, drop, refl, sym, ap, ◌∙◌, rules, tests, arith}
use Rattle.std.proofs.lemmas.Iterator.Splits.{YieldsList-from_slice_split}
use Rattle.std.proofs.lemmas.Iterator.Consumers.{YieldsList-turn, YieldsList-end}
use Rattle.std.proofs.lemmas.List.{at_drop_more, at_drop_all, length_push}
use Rattle.std.specs.Slice.Iter as slice
use Rattle.std.specs.Str.{bytes_eq}
use Rattle.mvd_http.specs.Guard.{has_part, parts_of}
use Rattle.mvd_http.proofs.guard.is_part.Goals as goal

-- whether one of the parts that are left is this, one step on
on : (item : List ℕ) (parts : List (List ℕ)) (i : ℕ) (part : List ℕ) → (i < length parts) × (part ≡ get_or parts i part) → has_part item (drop i parts) ≡ (bytes_eq part item || has_part item (drop (i + 1) parts))
on item parts i part at = at_drop_more (has_part item) parts i part at.0 ∙ ap (λ p. bytes_eq p item || has_part item (drop (i + 1) parts)) (sym at.1)

pub loop-part-init : goal.loop-part-init
loop-part-init c = refl

pub returns-then-eq : goal.returns-then-eq
returns-then-eq c =
    let t = YieldsList-turn (YieldsList-from_slice_split {s = c.into_iter-part-iterator.result} _ (λ b. b == 44) c.args.list.now (ap slice.split_rest c.into_iter-part-iterator.ensures.into_iter_gives ∙ c.split-part-items.ensures.rest) (ap slice.split_done c.into_iter-part-iterator.ensures.into_iter_gives ∙ c.split-part-items.ensures.done) (ap slice.split_callee c.into_iter-part-iterator.ensures.into_iter_gives ∙ c.split-part-items.ensures.closure) (λ x r q k. search (rules, tests))) c.loop-part.yielded _ c.loop-part.yielded_by _ _ c.in-Some.part c.in-Some.is c.next.ensures.steps in
    ap (λ b. b || has_part c.args.item.now (drop (length c.loop-part.yielded + 1) (parts_of c.args.list.now))) c.if-eq.ensures ∙ sym (on _ _ _ _ t) ∙ c.loop-part.invariant

pub loop-part-preserved : goal.loop-part-preserved
loop-part-preserved c =
    let t = YieldsList-turn (YieldsList-from_slice_split {s = c.into_iter-part-iterator.result} _ (λ b. b == 44) c.args.list.now (ap slice.split_rest c.into_iter-part-iterator.ensures.into_iter_gives ∙ c.split-part-items.ensures.rest) (ap slice.split_done c.into_iter-part-iterator.ensures.into_iter_gives ∙ c.split-part-items.ensures.done) (ap slice.split_callee c.into_iter-part-iterator.ensures.into_iter_gives ∙ c.split-part-items.ensures.closure) (λ x r q k. search (rules, tests))) c.loop-part.yielded _ c.loop-part.yielded_by _ _ c.in-Some.part c.in-Some.is c.next.ensures.steps in
    ap (λ n. has_part c.args.item.now (drop n (parts_of c.args.list.now))) (length_push c.loop-part.yielded c.in-Some.part)
    ∙ ap (λ b. b || has_part c.args.item.now (drop (length c.loop-part.yielded + 1) (parts_of c.args.list.now))) c.if-eq.ensures ∙ sym (on _ _ _ _ t) ∙ c.loop-part.invariant

pub returns : goal.returns
returns c =
    let t = YieldsList-end (YieldsList-from_slice_split {s = c.into_iter-part-iterator.result} _ (λ b. b == 44) c.args.list.now (ap slice.split_rest c.into_iter-part-iterator.ensures.into_iter_gives ∙ c.split-part-items.ensures.rest) (ap slice.split_done c.into_iter-part-iterator.ensures.into_iter_gives ∙ c.split-part-items.ensures.done) (ap slice.split_callee c.into_iter-part-iterator.ensures.into_iter_gives ∙ c.split-part-items.ensures.closure) (λ x r q k. search (rules, tests))) c.loop-part.yielded _ c.loop-part.yielded_by _ _ c.in-None.is c.next.ensures.steps in
    sym (at_drop_all (has_part c.args.item.now) (parts_of c.args.list.now) (length c.loop-part.yielded) (omega (arith, t.1))) ∙ c.loop-part.invariant
