use Rattle.std.proofs.Common.{refl}
use Rattle.mvd_records.specs.Jobs.{changing}
use Rattle.mvd_records.proofs.Saved.{changed, told}
use Rattle.mvd_records.proofs.Transacted.{stopped, went}
use Rattle.mvd_records.proofs.storing.change_state.Goals as goal

pub returns-in-Ok-clause-done : goal.returns-in-Ok-clause-done
returns-in-Ok-clause-done g c =
    let key = c.args.key.now in
    let bytes = c.args.bytes.now in
    went (changing key bytes) _ _ c.execute.ensures.stays _ (λ clean inside. (c.in-Ok.ensures.ran clean inside).inside) (λ clean inside version site sound holds.
    told version site _ _ key bytes c.in-Ok.count _ refl (changed version site _ _ key bytes c.in-Ok.count sound holds (rw (c.params-to_sql.ensures, c.params-to_sql-2.ensures) at (c.in-Ok.ensures.ran clean inside)).did))

pub returns-in-Err-clause-done : goal.returns-in-Err-clause-done
returns-in-Err-clause-done g c = stopped (changing c.args.key.now c.args.bytes.now) _ _ c.execute.ensures.stays c.in-Err.refusal c.in-Err.ensures.refusal
