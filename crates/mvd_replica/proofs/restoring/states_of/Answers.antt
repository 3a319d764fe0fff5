use Rattle.std.proofs.Common.{length, rules}
use Rattle.std.proofs.lemmas.Iterator.Adapters.{YieldsList-from_vec}
use Rattle.std.proofs.lemmas.Iterator.Consumers.{YieldsList-turn}
use Rattle.mvd_wire.specs.Codecs.{layout2}
use Rattle.mvd_replica.specs.Readable.{SpellsHeldState}
use Rattle.mvd_replica.proofs.RestoredOrder.{held_more, not_stored, spelled_more, stored_more}
use Rattle.mvd_replica.proofs.restoring.states_of.Goals as goal

pub loop-key-preserved : goal.loop-key-preserved
loop-key-preserved c = record {
  spelled = spelled_more c.loop-key.states.items _ c.loop-key.yielded (c.in-Some.key, c.in-Some.bytes) c.in-Ok.state c.deref.result.now c.in_ok-push.ensures.items c.loop-key.invariant.spelled c.in-Ok.ensures.spelled c.deref.ensures.value;
  held = held_more c.loop-key.states.items _ (c.in-Some.key, c.in-Ok.state) c.in_ok-push.ensures.items c.loop-key.invariant.held c.in-Ok.ensures.held;
  stored = stored_more c.loop-key.yielded (c.in-Some.key, c.in-Some.bytes) c.deref.result.now c.loop-key.invariant.stored c.in-Ok.ensures.stored c.deref.ensures.value;
}

pub returns-in-Err-clause-damaged : goal.returns-in-Err-clause-damaged
returns-in-Err-clause-damaged c stored same damaged all =
    let road = YieldsList-from_vec {s = c.into_iter-key-iterator.result} c.args.pairs.items (search rules) (search rules) in
    let turn = YieldsList-turn road c.loop-key.yielded c.loop-key.key-iterator c.loop-key.yielded_by c.next.result c.next.new.self (c.in-Some.key, c.in-Some.bytes) c.in-Some.is c.next.ensures.steps in
    not_stored (SpellsHeldState layout2) stored c.args.pairs.items (length c.loop-key.yielded) (c.in-Some.key, c.in-Some.bytes) c.deref.result.now same turn.0 turn.1 c.deref.ensures.value (c.in-Err.ensures.damaged damaged) all
