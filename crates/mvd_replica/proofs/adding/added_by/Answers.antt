use Rattle.std.proofs.Common.{◌∙◌, sym}
use Rattle.mvd_replica.proofs.AddedKeys.{counts_most, counts_no, counts_one}
use Rattle.mvd_replica.proofs.adding.added_by.Goals as goal

pub returns-then-is_ample-clause-counts : goal.returns-then-is_ample-clause-counts
returns-then-is_ample-clause-counts c = counts_most c.args.site.now c.args.key.now (c.is_ample.ensures c.if-is_ample.true)

pub returns-then-adds-clause-counts : goal.returns-then-adds-clause-counts
returns-then-adds-clause-counts c = counts_one c.args.site.now c.args.key.now (sym c.in_ok-adds.ensures.lacks ∙ c.if-adds.true)

pub returns-clause-counts : goal.returns-clause-counts
returns-clause-counts c = counts_no c.args.site.now c.args.key.now (sym c.in_ok-adds.ensures.lacks ∙ c.if-adds.false)
