use Rattle.std.proofs.Common.{◌<◌, arith, length}
use Rattle.mvd_server.proofs.Waking.{looks_more}
use Rattle.mvd_server.proofs.peer_list.Peers.next_due.Goals as goal

pub loop-peering-preserved : goal.loop-peering-preserved
loop-peering-preserved c =
    let i = c.loop-peering.peering-index in
    let items = c.deref-peering-items.result.now in
    let at : i < length items = omega arith in
    looks_more items i c.peering-item.result c.loop-peering.first c.next_due.result c.earlier-first.result at c.peering-item.is c.earlier-first.ensures c.next_due.ensures c.loop-peering.invariant
