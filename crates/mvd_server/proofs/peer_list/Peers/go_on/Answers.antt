use Rattle.std.specs.Prelude.{◌≤◌, ◌+◌}
use Rattle.std.proofs.Common.{ap, arith, subst, sym}
use Rattle.mvd_server.specs.Peerings.{places_taken}
use Rattle.mvd_server.specs.Talking.{talking_of}
use Rattle.mvd_server.specs.declared.peer_list.Peers.{Peers}
use Rattle.mvd_server.specs.PeerSays.{said_by_all}
use Rattle.mvd_server.proofs.Deeds.{deeds_none, deeds_on}
use Rattle.mvd_server.proofs.PeerTelling.{all_say_on, all_say_same}
use Rattle.mvd_server.proofs.peer_list.Peers.go_on.Goals as goal

pub loop-turn-init : goal.loop-turn-init
loop-turn-init g c = record {
  few = omega (arith, c.free-free.ensures, c.give_back.new.self.few);
  deeds = deeds_none (talking_of c.args.crowd.now.talks);
  says = all_say_on _ _ _ (c.close.ensures.says c.args.crowd.now) (c.give_back.ensures.says c.args.crowd.now);
}

pub loop-turn-preserved : goal.loop-turn-preserved
loop-turn-preserved g c = record {
  few = subst (λ (p : Peers). places_taken p.list.items + c.go_on_with.new.free ≤ 4) (sym c.note_turn.ensures) c.go_on_with.ensures.few;
  deeds = deeds_on (talking_of c.args.crowd.now.talks) (talking_of c.loop-turn.crowd.talks) (talking_of c.go_on_with.new.crowd.talks) c.loop-turn.invariant.deeds c.go_on_with.ensures.deeds;
  says = all_say_on _ _ _ c.loop-turn.invariant.says (all_say_on _ _ _ c.go_on_with.ensures.says (all_say_same _ _ (ap (λ (p : Peers). said_by_all p.list.items p.setting c.go_on_with.new.crowd) c.note_turn.ensures)));
}
