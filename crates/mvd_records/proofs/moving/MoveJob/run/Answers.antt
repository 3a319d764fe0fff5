use Rattle.mvd_records.specs.Jobs.{moving, saving, one_statement}
use Rattle.mvd_records.proofs.Transacted.{does_then, refused_as}
use Rattle.mvd_records.proofs.Moved.{both_moved}
use Rattle.mvd_records.proofs.moving.MoveJob.run.Goals as goal

pub returns-clause-done : goal.returns-clause-done
returns-clause-done g c =
    let key = c.args.self.now.key.now in
    let bytes = c.args.self.now.bytes.now in
    does_then (one_statement key) tt (saving key bytes) (moving key bytes) _ _ _ c.put_new.result (record {
      makes = λ _ d e f one two version site sound holds. (
          let it = one version site sound holds in
          let end = two version site it.0 it.1.0 in
          (end.0, (end.1.0, both_moved d e f key bytes it.1.1 end.1.1)));
      may_refuse = λ _ none. absurd none;
      refuses = λ _ _ _ _ none. absurd none;
    }) c.in-Ok.ensures.done c.put_new.ensures.done

pub returns-in-Err-clause-done : goal.returns-in-Err-clause-done
returns-in-Err-clause-done g c =
    refused_as (one_statement c.args.self.now.key.now) (moving c.args.self.now.key.now c.args.self.now.bytes.now) _ _ c.in-Err.refusal (λ it. it) (λ _ it. it) c.in-Err.ensures.done
