use Rattle.std.proofs.Common.{◌≡◌, [], None, Some, subst, sym}
use Rattle.sqlite.specs.Effect.{Database, IsDatabase}
use Rattle.mvd_records.specs.Tables.{all_tables}
use Rattle.mvd_records.specs.Jobs.{marking, settling, telling}
use Rattle.mvd_records.specs.Records.{HasTables, marks_of}
use Rattle.mvd_records.proofs.Transacted.{both_done, done_as}
use Rattle.mvd_records.proofs.Marking.{told_opens, marked_opens}
use Rattle.mvd_records.proofs.open.settle.Goals as goal

pub returns-in-Ok-Some-clause-done : goal.returns-in-Ok-Some-clause-done
returns-in-Ok-Some-clause-done g c =
    let version = c.in-Ok-Some.version in
    done_as (telling c.args.site) (Some version) (settling c.args.site) version _ _ (λ d e it has sound. (
    let told = it has in
    (subst IsDatabase (sym told.0) sound, told_opens version c.args.site d e told.0 has told.1)))
    (rw c.in-Ok-Some.field-0-is at c.in-Ok-Some.ensures.done)

pub returns-in-Ok-clause-done : goal.returns-in-Ok-clause-done
returns-in-Ok-clause-done g c =
    both_done (telling c.args.site) None (marking c.args.site) tt (settling c.args.site) 2 _ _ _ (λ d e f one two has _. (
    let told = one has in
    let written = two (subst (HasTables all_tables) (sym told.0) has) in
    (written.0, marked_opens c.args.site d e f told.0 told.1 (written.1 (subst (λ (d : Database). marks_of d ≡ []) (sym told.0) told.1)))))
    (rw c.in-Ok-None.field-0-is at c.in-Ok-None.ensures.done) c.in-Ok.ensures.done
