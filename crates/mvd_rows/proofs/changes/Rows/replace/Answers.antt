use Rattle.std.proofs.Common.{◌*◌, length, ap, arith}
use Rattle.std.specs.FinMap.{len}
use Rattle.mvd_keys.specs.State.{pairs_of}
use Rattle.mvd_keys.proofs.Parts.{holds}
use Rattle.mvd_rows.specs.Changes.{not_among, taken_out}
use Rattle.mvd_rows.proofs.Changing.{can_go, free}
use Rattle.mvd_rows.proofs.Counting.{within_both}
use Rattle.mvd_rows.proofs.Reached.{len-taken_out, same_each}
use Rattle.mvd_rows.proofs.changes.Rows.replace.Goals as goal

pub move_all-requires-clause-room : goal.move_all-requires-clause-room
move_all-requires-clause-room c =
    let few = c.requires.room.1.1 in
    (c.requires.room.0, (c.requires.room.1.0, omega arith, can_go c.requires.room.0 c.args.key.now _ _ c.requires.room.1.2))

pub move_all-requires-2-clause-room : goal.move_all-requires-2-clause-room
move_all-requires-2-clause-room c =
    let v = c.requires.room.0 in
    let key = c.args.key.now in
    let old = pairs_of c.args.old.now in
    let new = pairs_of c.args.new.now in
    let few = c.requires.room.1.1 in
    let fewer = len-taken_out v key (not_among new old) (len v) (omega arith) in
    (taken_out v key (not_among new old), (c.in_ok-move_all.ensures.rows v c.requires.room.1.0 (can_go v key _ _ c.requires.room.1.2), omega arith, free v key old new (holds _ c.requires.rising_old) c.requires.room.1.2))

pub returns-clause-rows : goal.returns-clause-rows
returns-clause-rows c = λ visible are has.
    c.in_ok-move_all-2.ensures.rows _ (c.in_ok-move_all.ensures.rows visible are (can_go visible c.args.key.now _ _ has)) (free visible c.args.key.now _ _ (holds _ c.requires.rising_old) has)

pub returns-in_err-move_all-2-clause-counts : goal.returns-in_err-move_all-2-clause-counts
returns-in_err-move_all-2-clause-counts c =
    within_both (length (not_among (pairs_of c.args.new.now) (pairs_of c.args.old.now))) (length (not_among (pairs_of c.args.old.now) (pairs_of c.args.new.now))) _ _ _ _ _ _ _
    (same_each _ _ _ _ c.move_all.ensures.indexes c.move_all.ensures.views) (ap (λ n. 4 * n) c.move_all.ensures.views) c.move_all.ensures.counts c.move_all-2.ensures.counts

pub returns-clause-counts : goal.returns-clause-counts
returns-clause-counts c =
    within_both (length (not_among (pairs_of c.args.new.now) (pairs_of c.args.old.now))) (length (not_among (pairs_of c.args.old.now) (pairs_of c.args.new.now))) _ _ _ _ _ _ _
    (same_each _ _ _ _ c.move_all.ensures.indexes c.move_all.ensures.views) (ap (λ n. 4 * n) c.move_all.ensures.views) c.move_all.ensures.counts c.move_all-2.ensures.counts
