use Rattle.std.proofs.Common.{◌∙◌}
use Rattle.mvd_rows.proofs.InConflict.{count_is}
use Rattle.mvd_rows.proofs.conflicts.Conflicts.count.Goals as goal

pub returns : goal.returns
returns c = λ states are. c.len.ensures.entries ∙ count_is c.args.self.now states are c.len.ensures.ordered
