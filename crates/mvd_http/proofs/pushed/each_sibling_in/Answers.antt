use Rattle.std.proofs.Common.{◌≡◌, ◌++◌, ◌∷◌, [], None, arith}
use Rattle.std.proofs.lemmas.Result.{err_from_is_err_and}
use Rattle.std.proofs.lemmas.List.{at_drop_all, map_push}
use Rattle.serde_json.specs.View.{items_view}
use Rattle.mvd_keys.specs.State.{pair_of, pairs_of}
use Rattle.mvd_http.specs.Pushed.{siblings_read}
use Rattle.mvd_http.proofs.Reading.{ends, goes_on, is_done, item_within, starts}
use Rattle.mvd_http.proofs.pushed.each_sibling_in.Goals as goal

pub loop-value-init : goal.loop-value-init
loop-value-init c = rw (c.in_ok-siblings.ensures.items) (starts (siblings_read c.args.seen.now None (items_view c.args.values.now)))

pub loop-value-preserved : goal.loop-value-preserved
loop-value-preserved c =
    let s = c.in_ok-sibling.sibling in
    let e : pairs_of c.push.new.self.items ≡ pairs_of c.loop-value.siblings.items ++ pair_of s ∷ [] = rw c.in_ok-push.ensures.items (map_push _ c.loop-value.siblings.items s) in
    rw e (goes_on c.args.seen.now c.args.values.now c.loop-value.previous (pairs_of c.loop-value.siblings.items) c.loop-value.value-index c.value-item.result (pair_of s) _ c.loop-value-test.true c.value-item.is c.in_ok-sibling.ensures c.loop-value.invariant)

pub sibling_in-requires : goal.sibling_in-requires
sibling_in-requires c =
    let inner = item_within c.args.values.now c.loop-value.value-index c.value-item.result c.loop-value-test.true c.value-item.is in
    omega (arith, c.requires)

pub returns-in_err-sibling : goal.returns-in_err-sibling
returns-in_err-sibling c =
    let p = err_from_is_err_and c.from_residual-in_err-sibling.result c.from_residual-in_err-sibling.ensures.1 in
    rw (p.1, p.2) (λ none. ends c.args.seen.now c.args.values.now c.loop-value.previous (pairs_of c.loop-value.siblings.items) c.loop-value.value-index c.value-item.result _ _ c.loop-value-test.true c.value-item.is (c.in_err-sibling.ensures none) c.loop-value.invariant)

pub returns : goal.returns
returns c = is_done c.args.seen.now c.args.values.now c.loop-value.previous (pairs_of c.loop-value.siblings.items) c.loop-value.value-index _ (at_drop_all (λ vs. vs) c.args.values.now c.loop-value.value-index c.loop-value-test.false) c.loop-value.invariant
