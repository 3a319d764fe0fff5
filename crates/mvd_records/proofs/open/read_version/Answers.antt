use Rattle.std.proofs.Common.{◌∙◌, refl, sym, subst}
use Rattle.sqlite.specs.Listing.{understood}
use Rattle.sqlite.specs.Given.{IsPlain}
use Rattle.mvd_records.specs.Jobs.{telling}
use Rattle.mvd_records.proofs.Transacted.{stopped, told_so}
use Rattle.mvd_records.proofs.Calls.{shown_same}
use Rattle.mvd_records.proofs.Inside.{shown_inside, failed_inside}
use Rattle.mvd_records.proofs.Marking.{told_marks}
use Rattle.mvd_records.proofs.Texts.{marks_text, marks_plain}
use Rattle.mvd_records.proofs.open.read_version.Goals as goal

pub returns-in-Ok-clause-done : goal.returns-in-Ok-clause-done
returns-in-Ok-clause-done g c =
    told_so c.args.site _ _ c.version_in.result (record { kept = λ clean inside. (shown_inside _ _ _ _ c.in-Ok.rows.items inside (c.in-Ok.ensures.ok clean)).0; survives = c.in-Ok.ensures.survives })
    (λ clean inside. (shown_inside _ _ _ _ c.in-Ok.rows.items inside (c.in-Ok.ensures.ok clean)).1 ∙ inside)
    (λ clean has. (shown_same marks_text _ _ _ c.in-Ok.rows.items (subst (λ s. IsPlain (understood s marks_text)) (sym has.schema) marks_plain) (c.in-Ok.ensures.ok clean)).0.now_is)
    (λ clean has. told_marks _ _ c.in-Ok.rows.items c.args.site c.version_in.result has (c.in-Ok.ensures.ok clean) (rw c.deref.ensures.value at c.version_in.ensures.told)) c.version_in.ensures.refusal

pub returns-in-Err-clause-done : goal.returns-in-Err-clause-done
returns-in-Err-clause-done g c = stopped (telling c.args.site) _ _ (record { kept = λ clean _. failed_inside _ _ _ _ _ (c.in-Err.ensures.err clean); survives = c.in-Err.ensures.survives }) _ refl
