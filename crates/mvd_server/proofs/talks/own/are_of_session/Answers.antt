use Rattle.std.proofs.Common.{◌∙◌, ◌∷◌, ◌++◌, [], ap, subst, sym, take}
use Rattle.std.proofs.lemmas.List.{take_all, take_more}
use Rattle.mvd_server.specs.Talking.{AreOfSession}
use Rattle.mvd_server.proofs.AtHand.{of_more}
use Rattle.mvd_server.proofs.talks.own.are_of_session.Goals as goal
use Rattle.mvd_wire.specs.declared.request.Request.{Request}

pub loop-request-preserved : goal.loop-request-preserved
loop-request-preserved c =
    let requests = c.args.requests.now in
    let i = c.loop-request.request-index in
    let request = c.request-item.result in
    let one = take_more requests i request c.loop-request-test.true ∙ ap (λ (r : Request). take i requests ++ r ∷ []) (sym c.request-item.is) in
    subst AreOfSession (sym one) (of_more (take i requests) request c.loop-request.invariant (sym c.is_of_session.ensures ∙ c.if-not-is_of_session.false))

pub returns : goal.returns
returns c _ = subst AreOfSession (take_all c.loop-request.request-index c.args.requests.now c.loop-request-test.false) c.loop-request.invariant
