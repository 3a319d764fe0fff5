use Rattle.std.proofs.Common.{◌∙◌}
use Rattle.mvd_kept.specs.Installs.{last_changes}
use Rattle.mvd_kept.proofs.InstallSpent.{tree_stays, tree_takes}
use Rattle.mvd_kept.proofs.LastChanges.{no_lasts}
use Rattle.mvd_kept.proofs.installing.change_tree.Goals as goal

pub returns-clause-still : goal.returns-clause-still
returns-clause-still c none =
    tree_stays (last_changes c.args.group.now) c.deref.result.now c.args.tree.now c.change.new.self c.digests_of.new.hashed c.change.new.hashed c.change.result
    (c.deref.ensures.value ∙ c.in_ok-changes.ensures.digests) c.change.ensures (no_lasts c.args.group.now none)

pub returns-clause-counts : goal.returns-clause-counts
returns-clause-counts c =
    tree_takes (last_changes c.args.group.now) c.args.tree.now c.change.new.self c.args.hashed.now c.digests_of.new.hashed c.change.new.hashed c.in_ok-changes.ensures.counts
    c.deref.result.now c.change.result (c.deref.ensures.value ∙ c.in_ok-changes.ensures.digests) c.change.ensures
