use Rattle.std.proofs.Common.{filter, subst, take}
use Rattle.mvd_host.specs.Feeds.{begins_with, met_all}
use Rattle.mvd_host.specs.Gathered.{Met}
use Rattle.mvd_host.proofs.Feeding.{met_more}
use Rattle.mvd_host.proofs.feed.Gathered.meet_all.Goals as goal

pub loop-key-preserved : goal.loop-key-preserved
loop-key-preserved c met m =
    let keys = c.args.keys.now in
    let p = begins_with c.args.prefix.now in
    let i = c.loop-key.key-index in
    subst (λ l. Met c.add_if.new.self l) (met_more p met keys i c.key-item.result c.loop-key-test.true c.key-item.is) (c.in_ok-add_if.ensures.forth (met_all met (filter p (take i keys))) (c.loop-key.invariant met m))
