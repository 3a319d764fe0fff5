use Rattle.std.proofs.Common.{◌≡◌, ◌≢◌, inr, refl, rules}
use Rattle.mvd_records.specs.Jobs.{one_statement}
use Rattle.mvd_records.proofs.Moved.{taken}
use Rattle.mvd_records.proofs.Transacted.{stopped, went}
use Rattle.mvd_records.proofs.moving.take_old.Goals as goal

pub returns-in-Ok-eq0-clause-done : goal.returns-in-Ok-eq0-clause-done
returns-in-Ok-eq0-clause-done g c = record {
  stays = c.execute.ensures.stays;
  inside = λ _ _. tt;
  made = λ _ _. tt;
  refusal = inr refl;
  refused = λ clean inside. inr (λ version site sound holds. (
      let zero : c.in-Ok-eq0.field-0 ≡ 0 = search rules in
      (taken version site _ _ c.args.key.now c.in-Ok-eq0.field-0 sound holds (rw c.params-to_sql.ensures at (c.in-Ok-eq0.ensures.ran clean inside)).did).missing zero));
}

pub returns-in-Ok-clause-done : goal.returns-in-Ok-clause-done
returns-in-Ok-clause-done g c = went (one_statement c.args.key.now) _ _ c.execute.ensures.stays tt (λ clean inside. (c.in-Ok.ensures.ran clean inside).inside) (λ clean inside version site sound holds. (
    let some : c.in-Ok.field-0 ≢ 0 = search rules in
    let it = taken version site _ _ c.args.key.now c.in-Ok.field-0 sound holds (rw c.params-to_sql.ensures at (c.in-Ok.ensures.ran clean inside)).did in
    (it.sound, it.there some)))

pub returns-in-Err-clause-done : goal.returns-in-Err-clause-done
returns-in-Err-clause-done g c = stopped (one_statement c.args.key.now) _ _ c.execute.ensures.stays c.in-Err.refusal c.in-Err.ensures.refusal
