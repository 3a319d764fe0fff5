use Rattle.std.proofs.Common.{◌∙◌, ◌==◌, ap, subst, sym, refl}
use Rattle.sqlite.specs.Given.{IsPlain}
use Rattle.sqlite.specs.Listing.{understood}
use Rattle.mvd_records.specs.Jobs.{finding_old}
use Rattle.mvd_records.proofs.Calls.{shown_same}
use Rattle.mvd_records.proofs.Checked.{any_row, tells_inside}
use Rattle.mvd_records.proofs.Inside.{failed_inside, shown_inside}
use Rattle.mvd_records.proofs.Texts.{any_old_plain, any_old_text}
use Rattle.mvd_records.proofs.Transacted.{stopped, went}
use Rattle.mvd_records.proofs.moving.has_old.Goals as goal

pub returns-in-Ok-clause-done : goal.returns-in-Ok-clause-done
returns-in-Ok-clause-done g c =
    went finding_old _ _ (record { kept = λ clean inside. (shown_inside _ _ _ _ c.in-Ok.rows.items inside (c.in-Ok.ensures.ok clean)).0; survives = c.in-Ok.ensures.survives }) _
    (λ clean inside. (shown_inside _ _ _ _ c.in-Ok.rows.items inside (c.in-Ok.ensures.ok clean)).1 ∙ inside)
    (λ clean inside version site sound holds. (
      (shown_same any_old_text _ _ _ c.in-Ok.rows.items (subst (λ s. IsPlain (understood s any_old_text)) (sym holds.tables.schema) any_old_plain) (c.in-Ok.ensures.ok clean)).0.now_is,
      tells_inside version site _ _ c.in-Ok.rows.items _ sound holds (c.in-Ok.ensures.ok clean) (any_row _ c.in-Ok.rows.items (c.is_empty.ensures ∙ ap (λ n. n == 0) c.in-Ok.rows.ok.0)),
    ))

pub returns-in-Err-clause-done : goal.returns-in-Err-clause-done
returns-in-Err-clause-done g c = stopped finding_old _ _ (record { kept = λ clean _. failed_inside _ _ _ _ _ (c.in-Err.ensures.err clean); survives = c.in-Err.ensures.survives }) _ refl
