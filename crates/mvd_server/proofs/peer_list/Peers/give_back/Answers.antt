use Rattle.std.proofs.Common.{◌<◌, arith, get_or, length, refl}
use Rattle.mvd_server.proofs.PeerTelling.{all_say_on, one_says, same_said, says_same}
use Rattle.mvd_server.proofs.Placing.{lent_more, places_kept}
use Rattle.mvd_server.proofs.peer_list.Peers.give_back.Goals as goal

pub loop-peering-preserved : goal.loop-peering-preserved
loop-peering-preserved c =
    let i = c.loop-peering.peering-index in
    let items = c.loop-peering.peering-items in
    let at : i < length items = omega arith in
    record {
      few = places_kept items i c.give_back.new.self c.peering-item.result at c.loop-peering.invariant.few c.give_back.ensures.places;
      lent = lent_more _ _ items i c.give_back.new.self at c.give_back.ensures.lends c.loop-peering.invariant.lent;
      says = λ crowd.
          let s = c.args.self.now.setting in
          let old = get_or items i c.peering-item.result in
          all_say_on _ _ _ (c.loop-peering.invariant.says crowd)
          (one_says _ _ i c.peering-item.result c.give_back.new.self at refl (says_same _ _ (same_said old c.give_back.new.self s s crowd crowd refl refl refl refl refl c.give_back.ensures.rest c.give_back.ensures.sits)));
    }
