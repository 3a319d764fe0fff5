use Rattle.std.proofs.Common.{◌<◌, arith, length, refl}
use Rattle.mvd_server.specs.Talking.{talking_of}
use Rattle.mvd_server.proofs.Deeds.{deeds_on}
use Rattle.mvd_server.proofs.PeerTelling.{all_say_on, one_says}
use Rattle.mvd_server.proofs.Placing.{places_kept}
use Rattle.mvd_server.proofs.peer_list.Peers.hand_on.Goals as goal

pub loop-peering-preserved : goal.loop-peering-preserved
loop-peering-preserved c =
    let i = c.loop-peering.peering-index in
    let items = c.loop-peering.peering-items in
    let at : i < length items = omega arith in
    record {
      few = places_kept items i c.hand_on.new.self c.peering-item.result at c.loop-peering.invariant.few c.hand_on.ensures.places;
      deeds = deeds_on (talking_of c.args.crowd.now.talks) (talking_of c.loop-peering.crowd.talks) (talking_of c.hand_on.new.crowd.talks) c.loop-peering.invariant.deeds c.hand_on.ensures.deeds;
      says = all_say_on _ _ _ c.loop-peering.invariant.says (one_says _ _ i c.peering-item.result c.hand_on.new.self at refl (c.hand_on.ensures.says c.args.self.now.setting));
    }
