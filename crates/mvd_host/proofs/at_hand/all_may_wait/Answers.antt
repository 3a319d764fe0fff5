use Rattle.std.proofs.Common.{◌≡◌, ◌∙◌, ◌∷◌, ◌++◌, [], List, true, ap, sym, subst, take, true≢false}
use Rattle.std.proofs.lemmas.List.{take_all, take_more}
use Rattle.mvd_wire.specs.declared.request.Request.{Request}
use Rattle.mvd_host.specs.AtHand.{AllMayWait, asks_of}
use Rattle.mvd_host.proofs.Fronts.{asks_more, may_at, may_more}
use Rattle.mvd_host.proofs.at_hand.all_may_wait.Goals as goal

pub loop-request-preserved : goal.loop-request-preserved
loop-request-preserved c =
    let n = c.args.client in
    let requests = c.args.requests.now in
    let i = c.loop-request.request-index in
    let request = c.request-item.result in
    let one = take_more requests i request c.loop-request-test.true ∙ ap (λ (r : Request). take i requests ++ r ∷ []) (sym c.request-item.is) in
    record {
      may = subst (λ (l : List Request). AllMayWait (asks_of n l)) (sym one)
          (subst AllMayWait (sym (asks_more n (take i requests) request)) (may_more (asks_of n (take i requests)) (n, request) c.loop-request.invariant.may (c.may_wait.ensures.0 c.if-not-may_wait.false)));
    }

pub returns-clause-all : goal.returns-clause-all
returns-clause-all c _ = subst (λ (l : List Request). AllMayWait (asks_of c.args.client l)) (take_all c.loop-request.request-index c.args.requests.now c.loop-request-test.false) c.loop-request.invariant.may

pub returns-then-not-may_wait-clause-only : goal.returns-then-not-may_wait-clause-only
returns-then-not-may_wait-clause-only c = λ all.
    let may = may_at c.args.client c.args.requests.now c.loop-request.request-index c.request-item.result c.loop-request-test.true c.request-item.is all in
    let yes : c.may_wait.result ≡ true = c.may_wait.ensures.1 may in
    absurd (true≢false (sym yes ∙ c.if-not-may_wait.true))
