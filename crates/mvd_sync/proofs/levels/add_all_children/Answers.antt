use Rattle.std.proofs.Common.{[], ◌∙◌}
use Rattle.mvd_sync.proofs.Descents.{told_all-more}
use Rattle.mvd_sync.specs.declared.asking.Node.{Node}
use Rattle.mvd_sync.proofs.levels.add_all_children.Goals as goal

pub loop-index-preserved : goal.loop-index-preserved
loop-index-preserved c =
    let none : Node = record { own = []; children = [] } in
    c.in_ok-add_children.ensures.added
    ∙ told_all-more c.loop-index.below.items c.args.below.now.items c.args.paths.now c.args.mine.now c.args.theirs.now c.loop-index.index c.index-paths-index.result none c.requires.mine c.requires.theirs c.loop-index-test.true c.index-paths-index.is c.loop-index.invariant
