use Rattle.std.proofs.Common.{◌<◌, arith, length, refl}
use Rattle.mvd_server.specs.Talking.{talking_of}
use Rattle.mvd_server.proofs.Deeds.{deeds_on}
use Rattle.mvd_server.proofs.Hearing.{heard_more}
use Rattle.mvd_server.proofs.PeerTelling.{all_say_on, one_says}
use Rattle.mvd_server.proofs.Placing.{places_kept}
use Rattle.mvd_server.proofs.Replying.{ended_more}
use Rattle.mvd_server.proofs.peer_list.Peers.note_commits.Goals as goal

pub loop-peering-preserved : goal.loop-peering-preserved
loop-peering-preserved c =
    let i = c.loop-peering.peering-index in
    let items = c.loop-peering.peering-items in
    let at : i < length items = omega arith in
    record {
      few = places_kept items i c.look.new.self c.peering-item.result at c.loop-peering.invariant.few c.look.ensures.places;
      heard = heard_more _ items i _ _ _ c.look.new.self at c.look.ensures.news c.loop-peering.invariant.heard;
      lost = ended_more _ c.args.self.now.list.items items i c.peering-item.result c.look.new.self at c.look.ensures.lost c.loop-peering.invariant.lost;
      deeds = deeds_on (talking_of c.args.crowd.now.talks) (talking_of c.loop-peering.crowd.talks) (talking_of c.look.new.crowd.talks) c.loop-peering.invariant.deeds c.look.ensures.deeds;
      says = all_say_on _ _ _ c.loop-peering.invariant.says (one_says _ _ i c.peering-item.result c.look.new.self at refl (c.look.ensures.says c.args.self.now.setting));
    }
