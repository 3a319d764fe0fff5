use Rattle.mvd_records.specs.Jobs.{saving}
use Rattle.mvd_records.proofs.Saved.{put}
use Rattle.mvd_records.proofs.Transacted.{stopped, went}
use Rattle.mvd_records.proofs.storing.put_new.Goals as goal

pub returns-in-Ok-clause-done : goal.returns-in-Ok-clause-done
returns-in-Ok-clause-done g c = went (saving c.args.key.now c.args.bytes.now) _ _ c.execute.ensures.stays tt (λ clean inside. (c.in-Ok.ensures.ran clean inside).inside) (λ clean inside version site sound holds.
    put version site _ _ c.args.key.now c.args.bytes.now c.in-Ok.field-0 sound holds (rw (c.params-to_sql.ensures, c.params-to_sql-2.ensures) at (c.in-Ok.ensures.ran clean inside)).did)

pub returns-in-Err-clause-done : goal.returns-in-Err-clause-done
returns-in-Err-clause-done g c = stopped (saving c.args.key.now c.args.bytes.now) _ _ c.execute.ensures.stays c.in-Err.refusal c.in-Err.ensures.refusal
