use Rattle.mvd_records.specs.Jobs.{raising}
use Rattle.mvd_records.proofs.Finished.{finished_inside}
use Rattle.mvd_records.proofs.Transacted.{stopped, went}
use Rattle.mvd_records.proofs.moving.set_version.Goals as goal

pub returns-in-Ok-clause-done : goal.returns-in-Ok-clause-done
returns-in-Ok-clause-done g c = went raising _ _ c.execute.ensures.stays tt (λ clean inside. (c.in-Ok.ensures.ran clean inside).inside) (λ clean inside version site sound holds.
    finished_inside version site _ _ c.in-Ok.field-0 holds (c.in-Ok.ensures.ran clean inside).did)

pub returns-in-Err-clause-done : goal.returns-in-Err-clause-done
returns-in-Err-clause-done g c = stopped raising _ _ c.execute.ensures.stays c.in-Err.refusal c.in-Err.ensures.refusal
