use Rattle.sqlite.specs.Held.{state}
use Rattle.mvd_replica.proofs.Restarts.{all_answered, turns_follow}
use Rattle.mvd_replica.proofs.laws.a_site_answers_across_restarts.Goals as goal

pub returns-clause-answers : goal.returns-clause-answers
returns-clause-answers g c = λ site image states known runs file stands are. all_answered (state g.S.Store) site image states known runs file stands are

pub returns-clause-connection : goal.returns-clause-connection
returns-clause-connection g c = λ old new before after input input' output output' result it. turns_follow it.turns old new (state g.S.Store before) (state g.S.Store after) it.takes.follows it.takes.leaves
