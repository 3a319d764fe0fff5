use Rattle.std.proofs.Common.{◌<◌, ◌≡◌, ap, arith, get_or, length}
use Rattle.mvd_server.proofs.Placing.{places_kept}
use Rattle.mvd_server.specs.Peerings.{places_of}
use Rattle.mvd_server.proofs.peer_list.Peers.note.Goals as goal

pub loop-peering-preserved : goal.loop-peering-preserved
loop-peering-preserved c =
    let i = c.loop-peering.peering-index in
    let items = c.loop-peering.peering-items in
    let at : i < length items = omega arith in
    let same : places_of c.note.new.self ≡ places_of (get_or items i c.peering-item.result) = ap places_of c.note.ensures in
    places_kept items i c.note.new.self c.peering-item.result at c.loop-peering.invariant (omega (arith, same))
