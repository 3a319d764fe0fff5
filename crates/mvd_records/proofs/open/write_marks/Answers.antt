use Rattle.mvd_records.specs.Jobs.{marking}
use Rattle.mvd_records.proofs.Transacted.{stopped, went}
use Rattle.mvd_records.proofs.Marking.{marked, marks_sound}
use Rattle.mvd_records.proofs.open.write_marks.Goals as goal

pub returns-in-Ok-clause-done : goal.returns-in-Ok-clause-done
returns-in-Ok-clause-done g c = went (marking c.args.site) _ _ c.execute.ensures.stays tt (λ clean inside. (c.in-Ok.ensures.ran clean inside).inside) (λ clean inside has. (
    let ran = (rw c.params-to_sql.ensures at (c.in-Ok.ensures.ran clean inside)).did in
    (marks_sound _ _ c.args.site c.in-Ok.field-0 has ran, λ none. marked _ _ c.args.site c.in-Ok.field-0 has none ran)))

pub returns-in-Err-clause-done : goal.returns-in-Err-clause-done
returns-in-Err-clause-done g c = stopped (marking c.args.site) _ _ c.execute.ensures.stays c.in-Err.refusal c.in-Err.ensures.refusal
