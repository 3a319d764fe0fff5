use Rattle.std.proofs.Common.{◌≡◌, length, ap, arith}
use Rattle.std.proofs.lemmas.List.{length-map}
use Rattle.std.specs.FinMap.{len-entries}
use Rattle.mvd_keys.specs.State.{pairs_of}
use Rattle.mvd_rows.specs.Changes.{updates_each}
use Rattle.mvd_rows.specs.Stands.{definitions_of}
use Rattle.mvd_rows.specs.Visible.{visible_in}
use Rattle.mvd_rows.proofs.ByKey.{few_visible}
use Rattle.mvd_rows.proofs.Standing.{differ_updates, differ_within, has_siblings, most_updates, stands_after}
use Rattle.mvd_rows.proofs.changes.Rows.change.Goals as goal

pub replace-requires-clause-room : goal.replace-requires-clause-room
replace-requires-clause-room c =
    let states = c.requires.room.1 in
    let few = few_visible states c.requires.room.2.2 in
    let new = c.requires.room.2.3 in
    let size : length (pairs_of c.siblings-2.result.now) ≡ length c.siblings-2.result.now = length-map _ _ in
    let same = ap length c.siblings-2.ensures.entries in
    let all = len-entries c.args.new.now.siblings in (
      visible_in states,
      (
        c.requires.room.2.0.rows,
        omega arith,
        has_siblings states c.args.key.now c.args.old.now _
            c.siblings.ensures.entries c.requires.room.2.1,
      ),
    )

pub returns-in-Ok-replace-clause-stands : goal.returns-in-Ok-replace-clause-stands
returns-in-Ok-replace-clause-stands c = λ defs states stands is.
    stands_after c.args.self.now c.change.new.self _ defs states c.args.key.now c.args.old.now c.args.new.now _ _ c.siblings.ensures.entries
    c.siblings-2.ensures.entries stands is c.in-Ok-replace.ensures.defs c.in-Ok-replace.ensures.rows c.replace.ensures.conflicts (c.in-Ok.ensures.keys states)

pub returns-in-Ok-replace-clause-differing : goal.returns-in-Ok-replace-clause-differing
returns-in-Ok-replace-clause-differing c =
    differ_updates _ _ _ _ (differ_within c.args.old.now c.args.new.now _ _ c.args.self.now _ _ _ c.siblings.ensures.entries
    c.siblings-2.ensures.entries c.change.ensures.counts c.replace.ensures.counts)

pub returns-in-Ok-replace-clause-looks : goal.returns-in-Ok-replace-clause-looks
returns-in-Ok-replace-clause-looks c =
    differ_within c.args.old.now c.args.new.now _ _ c.args.self.now _ _ _ c.siblings.ensures.entries
    c.siblings-2.ensures.entries c.change.ensures.counts c.replace.ensures.counts

pub returns-in-Ok-replace-clause-most : goal.returns-in-Ok-replace-clause-most
returns-in-Ok-replace-clause-most c =
    most_updates c.args.old.now c.args.new.now (updates_each (definitions_of c.args.self.now)) _ _ _
    (differ_within c.args.old.now c.args.new.now _ _ c.args.self.now _ _ _ c.siblings.ensures.entries
    c.siblings-2.ensures.entries c.change.ensures.counts c.replace.ensures.counts)

pub returns-in-Err-clause-differing : goal.returns-in-Err-clause-differing
returns-in-Err-clause-differing c =
    differ_updates _ _ _ _ (differ_within c.args.old.now c.args.new.now _ _ c.args.self.now _ _ _ c.siblings.ensures.entries
    c.siblings-2.ensures.entries c.change.ensures.counts c.replace.ensures.counts)

pub returns-in-Err-clause-looks : goal.returns-in-Err-clause-looks
returns-in-Err-clause-looks c =
    differ_within c.args.old.now c.args.new.now _ _ c.args.self.now _ _ _ c.siblings.ensures.entries
    c.siblings-2.ensures.entries c.change.ensures.counts c.replace.ensures.counts

pub returns-in-Err-clause-most : goal.returns-in-Err-clause-most
returns-in-Err-clause-most c =
    most_updates c.args.old.now c.args.new.now (updates_each (definitions_of c.args.self.now)) _ _ _
    (differ_within c.args.old.now c.args.new.now _ _ c.args.self.now _ _ _ c.siblings.ensures.entries
    c.siblings-2.ensures.entries c.change.ensures.counts c.replace.ensures.counts)
