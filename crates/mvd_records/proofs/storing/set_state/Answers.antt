use Rattle.mvd_records.specs.Jobs.{changing, saving}
use Rattle.mvd_records.proofs.Saved.{none_then}
use Rattle.mvd_records.proofs.Transacted.{does_then, done_as}
use Rattle.mvd_records.proofs.storing.set_state.Goals as goal

pub returns-in-Ok-true-clause-done : goal.returns-in-Ok-true-clause-done
returns-in-Ok-true-clause-done g c =
    let key = c.args.save.now.key.now in
    let bytes = c.args.save.now.bytes.now in
    done_as (changing key bytes) _ (saving key bytes) tt _ _ (λ d e one version site sound holds. (
    let it = rw c.in-Ok-true.field-0-test at (one version site sound holds) in
    (it.0, (it.1.0, it.1.1.saves)))) c.in-Ok-true.ensures.done

pub returns-in-Ok-false-clause-done : goal.returns-in-Ok-false-clause-done
returns-in-Ok-false-clause-done g c =
    let key = c.args.save.now.key.now in
    let bytes = c.args.save.now.bytes.now in
    does_then (changing key bytes) _ (saving key bytes) (saving key bytes) _ _ _ c.put_new-in-Ok-false.result (record {
      makes = λ _ d e f one two version site sound holds. (
          let it = rw c.in-Ok-false.field-0-test at (one version site sound holds) in
          let end = two version site it.0 it.1.0 in
          (end.0, (end.1.0, none_then d e f key bytes it.1.1 end.1.1)));
      may_refuse = λ _ none. absurd none;
      refuses = λ _ _ _ _ none. absurd none;
    }) c.in-Ok-false.ensures.done c.put_new-in-Ok-false.ensures.done
