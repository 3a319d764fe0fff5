use Rattle.mvd_replica.specs.Replicas.{site_of, store_of}
use Rattle.mvd_runs.proofs.Working.{works_append, works_asked, works_none, works_turns}
use Rattle.mvd_runs.proofs.laws.work_is_turns.Goals as goal

pub returns : goal.returns
returns g c = record {
  none = λ replica. works_none (site_of replica) (store_of replica);
  on = λ first second old mid new one other. works_append first second (site_of old) (site_of mid) (site_of new) (store_of old) (store_of mid) (store_of new) one other;
  turns = λ turns old new valid takes. works_turns turns (site_of old) (site_of new) (store_of old) (store_of new) valid takes;
  asked = λ old new request reply valid writes it. works_asked old new request reply valid writes it;
}
