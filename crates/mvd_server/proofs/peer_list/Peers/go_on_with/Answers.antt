use Rattle.std.proofs.Common.{◌<◌, arith, length, refl, subst, sym}
use Rattle.mvd_server.specs.PeerSays.{PeerSays, said_by}
use Rattle.mvd_server.specs.Talking.{TalksDeeds, talking_of}
use Rattle.mvd_server.specs.declared.peering.Peering.{Peering}
use Rattle.mvd_server.specs.declared.talks.Talks.{Talks}
use Rattle.mvd_server.proofs.Deeds.{deeds_on}
use Rattle.mvd_server.proofs.PeerTelling.{one_says, says_on}
use Rattle.mvd_server.proofs.peer_list.Peers.go_on_with.Goals as goal

pub returns-then-place-len-clause-deeds : goal.returns-then-place-len-clause-deeds
returns-then-place-len-clause-deeds g c = subst (λ (t : Talks). TalksDeeds c.args.crowd.now.talks t) (sym c.tell.ensures.talks)
    (deeds_on (talking_of c.args.crowd.now.talks) (talking_of c.connect.new.crowd.talks) (talking_of c.go_on.new.crowd.talks) c.connect.ensures.deeds c.go_on.ensures.deeds)

pub returns-then-place-len-clause-says : goal.returns-then-place-len-clause-says
returns-then-place-len-clause-says g c =
    let s = c.args.self.now.setting in
    let s' = c.go_on.new.setting in
    let last = c.tell.new.self in
    let at : c.args.place < length c.args.self.now.list.items = omega (arith, c.len.ensures, c.if-place-len.true) in
    one_says _ _ c.args.place c.index_mut-peering.result.now last at refl
    (subst (λ (p : Peering). PeerSays (said_by p s c.args.crowd.now) (said_by last s' c.tell.new.crowd)) c.index_mut-peering.ensures.value
    (says_on _ (said_by c.connect.new.self s c.connect.new.crowd) _ c.connect.ensures.says
    (says_on _ (said_by c.go_on.new.self s' c.go_on.new.crowd) _ c.go_on.ensures.says (c.tell.ensures.says s'))))
