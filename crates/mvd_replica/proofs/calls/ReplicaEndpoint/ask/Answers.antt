use Rattle.mvd_replica.proofs.Batching.{choice_from}
use Rattle.mvd_replica.proofs.Commits.{answer_follows, answer_keeps, answers_one, answers_stored}
use Rattle.mvd_replica.proofs.calls.ReplicaEndpoint.ask.Goals as goal

pub returns : goal.returns
returns g c =
    let said = c.answer-reply.ensures in
    record {
      replies = answers_stored _ _ _ _ said;
      choice = choice_from (answers_one _ _ _ _ said);
      keeps = answer_keeps _ _ _ _ said;
      follows = answer_follows _ _ _ _ said;
      leaves = said.leaves;
    }
