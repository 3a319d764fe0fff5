use Rattle.std.proofs.Common.{◌∙◌, ◌==◌, length, ap, rules, tests, arith}
use Rattle.std.proofs.lemmas.Iterator.Splits.{YieldsList-from_slice_split}
use Rattle.std.proofs.lemmas.Iterator.Consumers.{YieldsList-turn, YieldsList-end}
use Rattle.std.proofs.lemmas.List.{length_push}
use Rattle.std.proofs.lemmas.Result.{err_from_is_err_and}
use Rattle.std.specs.List.{slice_split}
use Rattle.std.specs.Slice.Iter as slice
use Rattle.mvd_http.proofs.Reading.{path_ends, path_on, paths_done}
use Rattle.mvd_http.proofs.lists_asked.each_node_of.Goals as goal

pub loop-path-preserved : goal.loop-path-preserved
loop-path-preserved c =
    let parts = slice_split (λ b. b == 44) c.args.paths.now in
    let t = YieldsList-turn (YieldsList-from_slice_split {s = c.into_iter-path-iterator.result} _ (λ b. b == 44) c.args.paths.now (ap slice.split_rest c.into_iter-path-iterator.ensures.into_iter_gives ∙ c.split-path-items.ensures.rest) (ap slice.split_done c.into_iter-path-iterator.ensures.into_iter_gives ∙ c.split-path-items.ensures.done) (ap slice.split_callee c.into_iter-path-iterator.ensures.into_iter_gives ∙ c.split-path-items.ensures.closure) (λ x r q k. search (rules, tests))) c.loop-path.yielded _ c.loop-path.yielded_by _ _ c.in-Some.path c.in-Some.is c.next.ensures.steps in
    let one = path_on parts c.loop-path.asks.items (length c.loop-path.yielded) c.in-Some.path.now c.in_ok-ask.ask _ t c.in_ok-ask.ensures c.loop-path.invariant in
    rw (c.in_ok-push.ensures.items, length_push c.loop-path.yielded c.in-Some.path) one

pub returns-in_err-ask : goal.returns-in_err-ask
returns-in_err-ask c =
    let parts = slice_split (λ b. b == 44) c.args.paths.now in
    let t = YieldsList-turn (YieldsList-from_slice_split {s = c.into_iter-path-iterator.result} _ (λ b. b == 44) c.args.paths.now (ap slice.split_rest c.into_iter-path-iterator.ensures.into_iter_gives ∙ c.split-path-items.ensures.rest) (ap slice.split_done c.into_iter-path-iterator.ensures.into_iter_gives ∙ c.split-path-items.ensures.done) (ap slice.split_callee c.into_iter-path-iterator.ensures.into_iter_gives ∙ c.split-path-items.ensures.closure) (λ x r q k. search (rules, tests))) c.loop-path.yielded _ c.loop-path.yielded_by _ _ c.in-Some.path c.in-Some.is c.next.ensures.steps in
    let p = err_from_is_err_and c.from_residual.result c.from_residual.ensures.1 in
    rw (p.1, p.2) (λ none. path_ends parts c.loop-path.asks.items (length c.loop-path.yielded) c.in-Some.path.now _ _ t (c.in_err-ask.ensures none) c.loop-path.invariant)

pub returns : goal.returns
returns c =
    let t = YieldsList-end (YieldsList-from_slice_split {s = c.into_iter-path-iterator.result} _ (λ b. b == 44) c.args.paths.now (ap slice.split_rest c.into_iter-path-iterator.ensures.into_iter_gives ∙ c.split-path-items.ensures.rest) (ap slice.split_done c.into_iter-path-iterator.ensures.into_iter_gives ∙ c.split-path-items.ensures.done) (ap slice.split_callee c.into_iter-path-iterator.ensures.into_iter_gives ∙ c.split-path-items.ensures.closure) (λ x r q k. search (rules, tests))) c.loop-path.yielded _ c.loop-path.yielded_by _ _ c.in-None.is c.next.ensures.steps in
    paths_done (slice_split (λ b. b == 44) c.args.paths.now) c.loop-path.asks.items (length c.loop-path.yielded) _ (omega (arith, t.1)) c.loop-path.invariant
