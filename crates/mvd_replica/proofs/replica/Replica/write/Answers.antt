use Rattle.mvd_replica.proofs.Asking.{is_reply}
use Rattle.mvd_replica.proofs.Commits.{answers_one}
use Rattle.mvd_replica.proofs.replica.Replica.write.Goals as goal

pub returns-clause-kind : goal.returns-clause-kind
returns-clause-kind g c = is_reply _ _ _ _ (answers_one _ _ _ _ c.answer.ensures)
