use Rattle.std.proofs.Common.{ap, ◌∙◌}
use Rattle.std.specs.FinMap.{from_sorted}
use Rattle.mvd_tree.proofs.Entries.{empty_bucket}
use Rattle.mvd_tree.proofs.bucket.Bucket.new.Goals as goal

pub returns : goal.returns
returns c = ap from_sorted c.new.ensures.items ∙ empty_bucket
