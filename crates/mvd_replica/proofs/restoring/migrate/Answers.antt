use Rattle.std.proofs.Common.{◌∙◌, Err, Ok, ap, length, rules, sym, subst}
use Rattle.std.proofs.lemmas.Iterator.Adapters.{YieldsList-from_vec}
use Rattle.std.proofs.lemmas.Iterator.Consumers.{YieldsList-end, YieldsList-so_far, YieldsList-turn}
use Rattle.std.proofs.lemmas.List.{map-id}
use Rattle.mvd_records.specs.Pairs.{pair_entries}
use Rattle.mvd_wire.specs.Codecs.{layout1}
use Rattle.mvd_replica.specs.Readable.{SpellsHeldState}
use Rattle.mvd_replica.proofs.RestoredOrder.{migrated, moved_more, moved_none, not_stored, not_yet, order_ended, order_moved, order_same, order_then, still_there, whole_old}
use Rattle.mvd_records.specs.Records.{HoldsRecords}
use Rattle.mvd_records.specs.declared.loading.StateTable.TheVariants.{Version1}
use Rattle.mvd_records.proofs.Follows.{finishes_damaged, finishes_finished, finishes_unchanged, loads_damaged, loads_entries, loads_reads, loads_whole}
use Rattle.mvd_records.proofs.Follows.{moves_damaged, moves_kept, moves_moved}
use Rattle.mvd_replica.proofs.Loading.{moved_by}
use Rattle.mvd_replica.proofs.Moving.{ended_same, found_at, moving_more, moving_none, same_then, same_unchanged}
use Rattle.mvd_replica.proofs.restoring.migrate.Goals as goal

pub returns-in-Err-clause-moved : goal.returns-in-Err-clause-moved
returns-in-Err-clause-moved g c number sound holds =
    let version = c.args.records.now.version in subst (HoldsRecords version number) (sym ((loads_reads Version1 _ _ (Err c.in-Err.refusal) c.in-Err.ensures).unchanged version number sound holds)) holds

pub loop-key-init : goal.loop-key-init
loop-key-init g c = record {
  before = c.in-Ok.ensures.before;
  kept = λ version number sound holds. subst (HoldsRecords version number) (sym ((loads_reads Version1 _ _ (Ok c.in-Ok.pairs) c.in-Ok.ensures).unchanged version number sound holds)) holds;
  since = λ sound. sound;
  moving = λ number sound holds.
      moving_none _ _ ((loads_reads Version1 _ _ (Ok c.in-Ok.pairs) c.in-Ok.ensures).unchanged c.args.records.now.version number sound holds) (loads_whole Version1 _ _ (Ok c.in-Ok.pairs) c.in-Ok.ensures c.args.records.now.version number sound holds).tables.apart;
  moved = λ number sound holds. moved_none _ _ ((loads_reads Version1 _ _ (Ok c.in-Ok.pairs) c.in-Ok.ensures).unchanged c.args.records.now.version number sound holds);
  version = c.in-Ok.ensures.version;
}

pub returns-in-Err-respelled-clause-moved : goal.returns-in-Err-respelled-clause-moved
returns-in-Err-respelled-clause-moved g c number sound holds = c.loop-key.invariant.kept c.args.records.now.version number sound holds

pub returns-in-Err-move_key-clause-moved : goal.returns-in-Err-move_key-clause-moved
returns-in-Err-move_key-clause-moved g c number sound holds =
    moves_kept {A = Unit {0}} _ _ _ _ (Err c.in-Err-move_key.refusal) c.in-Err-move_key.ensures c.args.records.now.version number sound (c.loop-key.invariant.kept c.args.records.now.version number (c.in-Err-move_key.ensures.commits.before sound) holds)

pub loop-key-preserved : goal.loop-key-preserved
loop-key-preserved g c =
    let road = YieldsList-from_vec {s = c.into_iter-key-iterator.result} c.in-Ok.pairs.items (search rules) (search rules) in
    let so_far = YieldsList-so_far road c.loop-key.yielded c.loop-key.key-iterator c.loop-key.yielded_by in
    let turn = YieldsList-turn road c.loop-key.yielded c.loop-key.key-iterator c.loop-key.yielded_by c.next.result c.next.new.self (c.in-Some.key, c.in-Some.bytes) c.in-Some.is c.next.ensures.steps in record {
      before = λ sound. c.loop-key.invariant.before (c.in-Ok-move_key.ensures.commits.before sound);
      kept = λ version number sound holds. moves_kept {A = Unit {0}} _ _ _ _ (Ok (tt {0})) c.in-Ok-move_key.ensures version number sound (c.loop-key.invariant.kept version number (c.in-Ok-move_key.ensures.commits.before sound) holds);
      since = λ sound. c.loop-key.invariant.since (c.in-Ok-move_key.ensures.commits.before sound);
      moving = λ number sound holds.
          let version = c.args.records.now.version in
          let before = c.in-Ok-move_key.ensures.commits.before sound in
          let now = c.loop-key.invariant.kept version number before holds in
          moving_more _ _ _ c.in-Some.key c.in-Some.bytes.items c.deref.result.now c.in-Ok-respelled.spelled.items c.deref-in-loop-key.result.now
          (c.loop-key.invariant.moving number before holds) (moves_moved {A = Unit {0}} _ _ _ _ (Ok (tt {0})) c.in-Ok-move_key.ensures version number sound now)
          (found_at _ c.in-Ok.pairs.items (length c.loop-key.yielded) (c.in-Some.key, c.in-Some.bytes) (loads_entries Version1 _ _ (Ok c.in-Ok.pairs) c.in-Ok.ensures version number (c.loop-key.invariant.since before) holds) turn.0 turn.1)
          c.in-Ok-respelled.ensures.spelled c.deref-in-loop-key.ensures.value c.deref.ensures.value;
      moved = λ number sound holds.
          let version = c.args.records.now.version in
          let before = c.in-Ok-move_key.ensures.commits.before sound in
          let now = c.loop-key.invariant.kept version number before holds in
          let first = c.loop-key.invariant.since before in
          let same = loads_entries Version1 _ _ (Ok c.in-Ok.pairs) c.in-Ok.ensures version number first holds in
          moved_more _ _ _ c.loop-key.yielded (c.in-Some.key, c.in-Some.bytes) c.deref.result.now c.in-Ok-respelled.spelled.items c.deref-in-loop-key.result.now
          (c.loop-key.invariant.moved number before holds) (loads_whole Version1 _ _ (Ok c.in-Ok.pairs) c.in-Ok.ensures version number first holds).tables.apart (moves_moved {A = Unit {0}} _ _ _ _ (Ok (tt {0})) c.in-Ok-move_key.ensures version number sound now)
          (found_at _ c.in-Ok.pairs.items (length c.loop-key.yielded) (c.in-Some.key, c.in-Some.bytes) same turn.0 turn.1)
          (not_yet _ c.in-Ok.pairs.items c.loop-key.yielded (c.in-Some.key, c.in-Some.bytes) same so_far turn.0 turn.1)
          c.in-Ok-respelled.ensures.spelled c.deref-in-loop-key.ensures.value c.deref.ensures.value;
      version = c.in-Ok-move_key.ensures.version ∙ c.loop-key.invariant.version;
    }

pub returns-clause-moved : goal.returns-clause-moved
returns-clause-moved g c number sound holds =
    let version = c.args.records.now.version in
    let now = c.loop-key.invariant.kept version number (c.finish.ensures.commits.before sound) holds in
    moved_by c.finish.result _ _ version number (finishes_finished _ _ c.finish.result c.finish.ensures version number sound now) (finishes_unchanged _ _ c.finish.result c.finish.ensures version number sound now) now

pub returns-in-Err-clause-states : goal.returns-in-Err-clause-states
returns-in-Err-clause-states g c number sound holds = same_unchanged _ _ ((loads_reads Version1 _ _ (Err c.in-Err.refusal) c.in-Err.ensures).unchanged c.args.records.now.version number sound holds)

pub returns-in-Err-respelled-clause-states : goal.returns-in-Err-respelled-clause-states
returns-in-Err-respelled-clause-states g c number sound holds = (c.loop-key.invariant.moving number sound holds).same

pub returns-in-Err-move_key-clause-states : goal.returns-in-Err-move_key-clause-states
returns-in-Err-move_key-clause-states g c number sound holds =
    let before = c.in-Err-move_key.ensures.commits.before sound in
    same_then _ _ _ (c.loop-key.invariant.moving number before holds).same (same_unchanged _ _ (c.in-Err-move_key.ensures.unchanged sound))

pub returns-clause-states : goal.returns-clause-states
returns-clause-states g c number sound holds =
    let version = c.args.records.now.version in
    let before = c.finish.ensures.commits.before sound in
    let now = c.loop-key.invariant.kept version number before holds in
    ended_same c.finish.result _ _ _ number (c.loop-key.invariant.moving number before holds).same (finishes_finished _ _ c.finish.result c.finish.ensures version number sound now) (finishes_unchanged _ _ c.finish.result c.finish.ensures version number sound now)

pub returns-in-Err-clause-order : goal.returns-in-Err-clause-order
returns-in-Err-clause-order g c number sound holds damaged order = loads_damaged Version1 _ _ (Err c.in-Err.refusal) c.in-Err.ensures c.args.records.now.version number sound holds damaged (whole_old _ _ _ order)

pub returns-in-Err-respelled-clause-order : goal.returns-in-Err-respelled-clause-order
returns-in-Err-respelled-clause-order g c number sound holds damaged order =
    let road = YieldsList-from_vec {s = c.into_iter-key-iterator.result} c.in-Ok.pairs.items (search rules) (search rules) in
    let turn = YieldsList-turn road c.loop-key.yielded c.loop-key.key-iterator c.loop-key.yielded_by c.next.result c.next.new.self (c.in-Some.key, c.in-Some.bytes) c.in-Some.is c.next.ensures.steps in
    not_stored (SpellsHeldState layout1) _ c.in-Ok.pairs.items (length c.loop-key.yielded) (c.in-Some.key, c.in-Some.bytes) c.deref.result.now
    (loads_entries Version1 _ _ (Ok c.in-Ok.pairs) c.in-Ok.ensures c.args.records.now.version number (c.loop-key.invariant.since sound) holds) turn.0 turn.1 c.deref.ensures.value (c.in-Err-respelled.ensures.damaged damaged) order.old_stored

pub returns-in-Err-move_key-clause-order : goal.returns-in-Err-move_key-clause-order
returns-in-Err-move_key-clause-order g c number sound holds damaged order =
    let road = YieldsList-from_vec {s = c.into_iter-key-iterator.result} c.in-Ok.pairs.items (search rules) (search rules) in
    let so_far = YieldsList-so_far road c.loop-key.yielded c.loop-key.key-iterator c.loop-key.yielded_by in
    let turn = YieldsList-turn road c.loop-key.yielded c.loop-key.key-iterator c.loop-key.yielded_by c.next.result c.next.new.self (c.in-Some.key, c.in-Some.bytes) c.in-Some.is c.next.ensures.steps in
    let version = c.args.records.now.version in
    let before = c.in-Err-move_key.ensures.commits.before sound in
    let same = loads_entries Version1 _ _ (Ok c.in-Ok.pairs) c.in-Ok.ensures version number (c.loop-key.invariant.since before) holds in
    still_there _ _ (pair_entries c.loop-key.yielded) c.in-Some.key c.in-Some.bytes.items (c.loop-key.invariant.moved number before holds)
    (found_at _ c.in-Ok.pairs.items (length c.loop-key.yielded) (c.in-Some.key, c.in-Some.bytes) same turn.0 turn.1)
    (not_yet _ c.in-Ok.pairs.items c.loop-key.yielded (c.in-Some.key, c.in-Some.bytes) same so_far turn.0 turn.1)
    (moves_damaged {A = Unit {0}} _ _ _ _ (Err c.in-Err-move_key.refusal) c.in-Err-move_key.ensures version number sound (c.loop-key.invariant.kept version number before holds) damaged)

pub returns-clause-order : goal.returns-clause-order
returns-clause-order g c number sound holds =
    let road = YieldsList-from_vec {s = c.into_iter-key-iterator.result} c.in-Ok.pairs.items (search rules) (search rules) in
    let end = YieldsList-end road c.loop-key.yielded c.loop-key.key-iterator c.loop-key.yielded_by c.next.result c.next.new.self c.in-None.is c.next.ensures.steps in
    let version = c.args.records.now.version in
    let before = c.finish.ensures.commits.before sound in
    let first = c.loop-key.invariant.since before in
    let now = c.loop-key.invariant.kept version number before holds in
    migrated c.finish.result _ _ _ version number (pair_entries c.loop-key.yielded) (c.loop-key.invariant.moved number before holds)
    (ap pair_entries (sym (map-id c.loop-key.yielded) ∙ end.0) ∙ loads_entries Version1 _ _ (Ok c.in-Ok.pairs) c.in-Ok.ensures version number first holds) (loads_whole Version1 _ _ (Ok c.in-Ok.pairs) c.in-Ok.ensures version number first holds)
    (finishes_finished _ _ c.finish.result c.finish.ensures version number sound now) (finishes_damaged _ _ c.finish.result c.finish.ensures version number sound now)

pub returns-in-Err-clause-alike : goal.returns-in-Err-clause-alike
returns-in-Err-clause-alike g c number sound holds = order_same _ _ _ ((loads_reads Version1 _ _ (Err c.in-Err.refusal) c.in-Err.ensures).unchanged c.args.records.now.version number sound holds)

pub returns-in-Err-respelled-clause-alike : goal.returns-in-Err-respelled-clause-alike
returns-in-Err-respelled-clause-alike g c number sound holds =
    let version = c.args.records.now.version in
    order_moved version _ _ _ (c.loop-key.invariant.moved number sound holds) (c.loop-key.invariant.moving number sound holds) (loads_whole Version1 _ _ (Ok c.in-Ok.pairs) c.in-Ok.ensures version number (c.loop-key.invariant.since sound) holds)

pub returns-in-Err-move_key-clause-alike : goal.returns-in-Err-move_key-clause-alike
returns-in-Err-move_key-clause-alike g c number sound holds =
    let version = c.args.records.now.version in
    let before = c.in-Err-move_key.ensures.commits.before sound in
    order_then version _ _ _ (c.loop-key.invariant.moved number before holds) (c.loop-key.invariant.moving number before holds) (loads_whole Version1 _ _ (Ok c.in-Ok.pairs) c.in-Ok.ensures version number (c.loop-key.invariant.since before) holds) _
    (c.in-Err-move_key.ensures.unchanged sound)

pub returns-clause-alike : goal.returns-clause-alike
returns-clause-alike g c number sound holds =
    let version = c.args.records.now.version in
    let before = c.finish.ensures.commits.before sound in
    let now = c.loop-key.invariant.kept version number before holds in
    order_ended version _ _ _ (c.loop-key.invariant.moved number before holds) (c.loop-key.invariant.moving number before holds) (loads_whole Version1 _ _ (Ok c.in-Ok.pairs) c.in-Ok.ensures version number (c.loop-key.invariant.since before) holds) c.finish.result _
    (finishes_unchanged _ _ c.finish.result c.finish.ensures version number sound now)
