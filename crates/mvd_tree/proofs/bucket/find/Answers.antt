use Rattle.mvd_tree.proofs.Entries.{splits}
use Rattle.mvd_tree.proofs.bucket.find.Goals as goal

pub returns-clause-splits : goal.returns-clause-splits
returns-clause-splits c =
    splits c.args.key.now c.args.entries.now c.count_below-below.result c.is_at.result c.requires
    c.count_below-below.ensures.within c.count_below-below.ensures.below c.count_below-below.ensures.from
    c.is_at.ensures.yes c.is_at.ensures.no
