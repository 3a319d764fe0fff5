use Rattle.std.proofs.Common.{ap, refl, ◌∙◌}
use Rattle.mvd_server.specs.Talking.{talking_of}
use Rattle.mvd_server.specs.declared.peer_list.Peers.{Peers}
use Rattle.mvd_server.proofs.Deeds.{deeds_none, deeds_on}
use Rattle.mvd_server.proofs.PeerTelling.{all_say_none, all_say_on}
use Rattle.mvd_server.proofs.Replying.{hears_more}
use Rattle.mvd_server.proofs.peer_list.Peers.hear_all.Goals as goal

pub loop-client-init : goal.loop-client-init
loop-client-init c = record { hears = refl; rest = refl; deeds = deeds_none (talking_of c.args.crowd.now.talks); says = all_say_none _ }

pub loop-client-preserved : goal.loop-client-preserved
loop-client-preserved c = record {
  hears = hears_more c.loop-client.yielded c.in-Some.client c.in-Some.reply _ c.loop-client.self.list.items _ c.loop-client.invariant.hears c.hear.ensures.hears;
  rest = c.hear.ensures.rest ∙ ap (λ (p : Peers). record p { list = c.hear.new.self.list; few = c.hear.new.self.few }) c.loop-client.invariant.rest;
  deeds = deeds_on (talking_of c.args.crowd.now.talks) (talking_of c.loop-client.crowd.talks) (talking_of c.hear.new.crowd.talks) c.loop-client.invariant.deeds c.hear.ensures.deeds;
  says = all_say_on _ _ _ c.loop-client.invariant.says c.hear.ensures.says;
}
