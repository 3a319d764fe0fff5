use Rattle.std.proofs.Common.{false, inr, refl, subst, sym}
use Rattle.sqlite.specs.Effect.{IsDatabase}
use Rattle.mvd_records.specs.Jobs.{finding_old, finishing, raising}
use Rattle.mvd_records.specs.Records.{HoldsRecords}
use Rattle.mvd_records.proofs.Finished.{ended}
use Rattle.mvd_records.proofs.Transacted.{does_then, refused_as}
use Rattle.mvd_records.proofs.moving.FinishJob.run.Goals as goal

pub returns-in-Ok-true-clause-done : goal.returns-in-Ok-true-clause-done
returns-in-Ok-true-clause-done g c =
    let asked = rw c.in-Ok-true.field-0-test at c.in-Ok-true.ensures.done in
    record {
      stays = asked.stays;
      inside = λ _ _. tt;
      made = λ _ _. tt;
      refusal = inr refl;
      refused = λ clean on. inr (λ version site sound holds. (asked.made clean on version site sound holds).1);
    }

pub returns-clause-done : goal.returns-clause-done
returns-clause-done g c =
    does_then finding_old false raising finishing _ _ _ c.set_version.result (record {
      makes = λ _ d e f one two version site sound holds. (
          let asked = one version site sound holds in
          let it = two version site (subst IsDatabase (sym asked.0) sound) (subst (HoldsRecords version site) (sym asked.0) holds) in
          (it.0, ended site d e f asked.0 asked.1 (it.1, it.2)));
      may_refuse = λ _ none. absurd none;
      refuses = λ _ _ _ _ none. absurd none;
    }) (rw c.in-Ok-false.field-0-test at c.in-Ok-false.ensures.done) c.set_version.ensures.done

pub returns-in-Err-clause-done : goal.returns-in-Err-clause-done
returns-in-Err-clause-done g c = refused_as finding_old finishing _ _ c.in-Err.refusal (λ none. absurd none) (λ _ none. absurd none) c.in-Err.ensures.done
