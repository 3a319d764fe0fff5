use Rattle.mvd_replica.proofs.Grouping.{answer_elsewhere}
use Rattle.mvd_replica.proofs.laws.a_request_is_untouched_by_changes_of_others.Goals as goal

pub returns : goal.returns
returns c config states key state request apart room = answer_elsewhere config states key state request apart room
