use Rattle.std.proofs.Common.{◌≡◌, ℕ, ◌+◌, ◌<◌, ◌==◌, List, length, get_or, drop, refl, sym, ap, ◌∙◌, rules, tests, arith, option_copied, Option}
use Rattle.std.proofs.lemmas.Iterator.Splits.{YieldsList-from_slice_split}
use Rattle.std.proofs.lemmas.Iterator.Consumers.{YieldsList-turn, YieldsList-end}
use Rattle.std.proofs.lemmas.List.{at_drop_more, at_drop_all, length_push}
use Rattle.std.specs.Slice.Iter as slice
use Rattle.mvd_http.specs.Paths.{given as value_of, parameters_of, or_else, value_among, without}
use Rattle.mvd_http.proofs.target.given.Goals as goal

-- what is read from the options that are left, one step on
on : (name : List ℕ) (options : List (List ℕ)) (i : ℕ) (option : List ℕ) (left : Option (List ℕ)) → (i < length options) × (option ≡ get_or options i option) → left ≡ without name option →
    value_among name (drop i options) ≡ or_else left (value_among name (drop (i + 1) options))
on name options i option left at found = at_drop_more (value_among name) options i option at.0 ∙ ap (λ o. or_else (without name o) (value_among name (drop (i + 1) options))) (sym at.1) ∙ ap (λ o. or_else o (value_among name (drop (i + 1) options))) (sym found)

pub loop-option-init : goal.loop-option-init
unfolding value_of
loop-option-init c = refl

pub returns-in-Some-without : goal.returns-in-Some-without
returns-in-Some-without c =
    let t = YieldsList-turn (YieldsList-from_slice_split {s = c.into_iter-option-iterator.result} _ (λ b. b == 38) c.args.query.now (ap slice.split_rest c.into_iter-option-iterator.ensures.into_iter_gives ∙ c.split-option-items.ensures.rest) (ap slice.split_done c.into_iter-option-iterator.ensures.into_iter_gives ∙ c.split-option-items.ensures.done) (ap slice.split_callee c.into_iter-option-iterator.ensures.into_iter_gives ∙ c.split-option-items.ensures.closure) (λ x r q k. search (rules, tests))) c.loop-option.yielded _ c.loop-option.yielded_by _ _ c.in-Some.option c.in-Some.is c.next.ensures.steps in
    sym (on _ _ _ _ _ t (sym (ap option_copied c.in-Some-without.is) ∙ c.without.ensures)) ∙ c.loop-option.invariant

pub loop-option-preserved : goal.loop-option-preserved
loop-option-preserved c =
    let t = YieldsList-turn (YieldsList-from_slice_split {s = c.into_iter-option-iterator.result} _ (λ b. b == 38) c.args.query.now (ap slice.split_rest c.into_iter-option-iterator.ensures.into_iter_gives ∙ c.split-option-items.ensures.rest) (ap slice.split_done c.into_iter-option-iterator.ensures.into_iter_gives ∙ c.split-option-items.ensures.done) (ap slice.split_callee c.into_iter-option-iterator.ensures.into_iter_gives ∙ c.split-option-items.ensures.closure) (λ x r q k. search (rules, tests))) c.loop-option.yielded _ c.loop-option.yielded_by _ _ c.in-Some.option c.in-Some.is c.next.ensures.steps in
    ap (λ n. value_among c.args.name.now (drop n (parameters_of c.args.query.now))) (length_push c.loop-option.yielded c.in-Some.option) ∙ sym (on _ _ _ _ _ t (sym (ap option_copied c.in_default.is) ∙ c.without.ensures)) ∙ c.loop-option.invariant

pub returns : goal.returns
returns c =
    let t = YieldsList-end (YieldsList-from_slice_split {s = c.into_iter-option-iterator.result} _ (λ b. b == 38) c.args.query.now (ap slice.split_rest c.into_iter-option-iterator.ensures.into_iter_gives ∙ c.split-option-items.ensures.rest) (ap slice.split_done c.into_iter-option-iterator.ensures.into_iter_gives ∙ c.split-option-items.ensures.done) (ap slice.split_callee c.into_iter-option-iterator.ensures.into_iter_gives ∙ c.split-option-items.ensures.closure) (λ x r q k. search (rules, tests))) c.loop-option.yielded _ c.loop-option.yielded_by _ _ c.in-None.is c.next.ensures.steps in
    sym (at_drop_all (value_among c.args.name.now) (parameters_of c.args.query.now) (length c.loop-option.yielded) (omega (arith, t.1))) ∙ c.loop-option.invariant
