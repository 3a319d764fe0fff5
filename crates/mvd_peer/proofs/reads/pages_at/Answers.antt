use Rattle.std.proofs.Common.{subst}
use Rattle.std.specs.Prelude.{Option}
use Rattle.mvd_keys.specs.Writes.{Key}
use Rattle.mvd_peer.specs.SiteTells.{TellsBucketPage}
use Rattle.mvd_peer.proofs.OneByOne.{for_each_at}
use Rattle.mvd_peer.proofs.reads.pages_at.Goals as goal

pub loop-path-preserved : goal.loop-path-preserved
loop-path-preserved c =
    let it = c.bucket.ensures in
    let told = subst (λ (after : Option Key). TellsBucketPage c.args.site.now c.loop-path-item.result.0 after c.bucket.result) c.as_ref.ensures.value (record { whole = it.whole; path = it.path; keys = it.keys; more = it.more; refused = it.refused }) in
    for_each_at (λ q. TellsBucketPage c.args.site.now q.0 q.1) c.args.asked.now _ c.loop-path-item.result _ _ c.bucket.result c.loop-path-test.true c.loop-path-item.is c.in_ok-push.ensures.items c.loop-path.invariant told
