use Rattle.std.proofs.Common.{◌≡◌}
use Rattle.mvd_peer.specs.SiteTells.{node_told}
use Rattle.mvd_peer.proofs.OneByOne.{for_each_at}
use Rattle.mvd_peer.proofs.reads.nodes_at.Goals as goal

pub loop-path-preserved : goal.loop-path-preserved
loop-path-preserved c = for_each_at (λ path answer. answer ≡ node_told c.args.site.now path) c.args.paths.now _ c.path-item.result _ _ c.node.result c.loop-path-test.true c.path-item.is c.in_ok-push.ensures.items c.loop-path.invariant c.node.ensures
