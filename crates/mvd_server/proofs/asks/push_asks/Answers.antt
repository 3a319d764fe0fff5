use Rattle.std.proofs.Common.{string_bytes}
use Rattle.std.proofs.lemmas.List.{at_drop_all}
use Rattle.mvd_server.proofs.Questions.{asks_done, asks_on}
use Rattle.mvd_server.proofs.asks.push_asks.Goals as goal

pub loop-ask-preserved : goal.loop-ask-preserved
loop-ask-preserved c =
    let (line, one, pushed) = c.in_ok-push_ask.ensures in
    let site = c.args.site.now in
    let asks = c.args.asks.now in
    let next = asks_on c.args.right.now site c.args.spelling asks (string_bytes c.loop-ask.out) line c.loop-ask.ask-index c.ask-item.result _ c.loop-ask-test.true c.ask-item.is one c.loop-ask.invariant in
    rw (c.in_ok-push_line_end.ensures, pushed) next

pub returns : goal.returns
returns c =
    asks_done c.args.right.now c.args.site.now c.args.spelling c.args.asks.now (string_bytes c.loop-ask.out) c.loop-ask.ask-index _ (at_drop_all (λ asks. asks) c.args.asks.now c.loop-ask.ask-index c.loop-ask-test.false) c.loop-ask.invariant
