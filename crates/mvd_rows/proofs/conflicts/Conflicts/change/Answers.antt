use Rattle.mvd_rows.proofs.InConflict.{stays}
use Rattle.mvd_rows.proofs.conflicts.Conflicts.change.Goals as goal

pub returns-then-eq-clause-keys : goal.returns-then-eq-clause-keys
returns-then-eq-clause-keys c = λ states are is.
    stays c.args.self.now states c.args.key.now c.args.old.now c.args.new.now c.count_in_conflict-count.result
    c.count_in_conflict.result are is c.count_in_conflict-count.ensures c.count_in_conflict.ensures c.if-eq.ensures
