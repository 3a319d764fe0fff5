use Rattle.std.proofs.Common.{inr, refl, subst}
use Rattle.mvd_server.specs.PeerSays.{PeerSays, said_by}
use Rattle.mvd_server.specs.Replied.{SessionHears}
use Rattle.mvd_server.specs.declared.peering.Peering.{Peering}
use Rattle.mvd_server.proofs.PeerTelling.{one_says}
use Rattle.mvd_server.proofs.peer_list.Peers.hear.Goals as goal

pub returns-clause-hears : goal.returns-clause-hears
returns-clause-hears c =
    let p = c.hear.new.self in
    inr (c.in-Some.place, c.index_mut.result.now, p, c.in-Some.ensures.some, refl, subst (λ (q : Peering). SessionHears c.args.reply q.session p.session) c.index_mut.ensures.value c.hear.ensures.hears)

pub returns-clause-says : goal.returns-clause-says
returns-clause-says c =
    let s = c.args.self.now.setting in
    let p = c.hear.new.self in
    one_says _ _ c.in-Some.place c.index_mut.result.now p c.in-Some.ensures.some.0 refl
    (subst (λ (q : Peering). PeerSays (said_by q s c.args.crowd.now) (said_by p s c.hear.new.crowd)) c.index_mut.ensures.value (c.hear.ensures.says s))
