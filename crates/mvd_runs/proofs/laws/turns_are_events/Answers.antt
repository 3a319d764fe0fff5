use Rattle.mvd_replica.specs.Replicas.{site_of, store_of}
use Rattle.mvd_replica.proofs.Batching.{takes}
use Rattle.mvd_replica.proofs.Commits.{answers_all, commit_follows}
use Rattle.mvd_runs.proofs.Telling.{come}
use Rattle.mvd_runs.proofs.laws.turns_are_events.Goals as goal

pub returns-clause-site : goal.returns-clause-site
returns-clause-site g c = λ a i calls old new are site. come a i calls old new are site

pub returns-clause-replica : goal.returns-clause-replica
returns-clause-replica g c = λ turns old new before after takes. record { replies = takes.replies; stands = takes.stands; config = takes.config; choice = takes.choice }

pub returns-clause-answer : goal.returns-clause-answer
returns-clause-answer g c = λ turns old new it. takes turns (site_of old) (site_of new) (store_of old) (store_of new) it.takes (commit_follows turns old new it)

pub returns-clause-answers : goal.returns-clause-answers
returns-clause-answers g c = λ requests replies old new it. answers_all requests replies old new it
