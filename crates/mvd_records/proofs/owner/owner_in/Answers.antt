use Rattle.std.proofs.Common.{arith, inl, inr}
use Rattle.mvd_records.proofs.Calls.{sound_before, not_shown, shown_open, shown_keeps}
use Rattle.mvd_records.proofs.Checked.{only_reads}
use Rattle.mvd_records.proofs.Marking.{named_by}
use Rattle.mvd_records.proofs.Owned.{unmarked}
use Rattle.mvd_records.proofs.Texts.{marks_text, marks_plain}
use Rattle.mvd_records.proofs.owner.owner_in.Goals as goal

pub returns-in-Some-clause-reads : goal.returns-in-Some-clause-reads
returns-in-Some-clause-reads g c =
    only_reads marks_text _ _ marks_plain (c.is_settled.ensures.settled c.if-not-is_settled.false)
    (λ it. record { clean = omega (arith, c.in-Ok.ensures.survives.clean, it.clean); is_open = shown_open _ _ _ _ _ (c.in-Ok.ensures.ok it.clean) })
    (λ clean plain. shown_keeps _ _ _ _ _ plain (c.in-Ok.ensures.ok clean)) c.in-Ok.ensures.survives

pub returns-in-Ok-clause-reads : goal.returns-in-Ok-clause-reads
returns-in-Ok-clause-reads g c =
    only_reads marks_text _ _ marks_plain (c.is_settled.ensures.settled c.if-not-is_settled.false)
    (λ it. record { clean = omega (arith, c.in-Ok.ensures.survives.clean, it.clean); is_open = shown_open _ _ _ _ _ (c.in-Ok.ensures.ok it.clean) })
    (λ clean plain. shown_keeps _ _ _ _ _ plain (c.in-Ok.ensures.ok clean)) c.in-Ok.ensures.survives

pub returns-in-Some-clause-named : goal.returns-in-Some-clause-named
returns-in-Some-clause-named g c it has =
    (c.in-Some._version, named_by _ _ c.in-Ok.rows.items _ _ (c.is_settled.ensures.settled c.if-not-is_settled.false) has (c.in-Ok.ensures.ok it.clean) (rw c.deref.ensures.value at c.in-Some.ensures))

pub returns-clause-reads : goal.returns-clause-reads
returns-clause-reads g c =
    only_reads marks_text _ _ marks_plain (c.is_settled.ensures.settled c.if-not-is_settled.false)
    (sound_before _ _ c.in-Err.ensures.survives.clean (λ clean. not_shown _ _ _ _ _ (c.in-Err.ensures.err clean)))
    (λ clean plain. not_shown _ _ _ _ _ (c.in-Err.ensures.err clean)) c.in-Err.ensures.survives

pub returns-in-Ok-clause-unnamed : goal.returns-in-Ok-clause-unnamed
returns-in-Ok-clause-unnamed g c it has _ =
    inr (inr (unmarked _ _ c.in-Ok.rows.items (c.is_settled.ensures.settled c.if-not-is_settled.false) has (c.in-Ok.ensures.ok it.clean) (rw c.deref.ensures.value at c.in-None.ensures)))

pub returns-clause-unnamed : goal.returns-clause-unnamed
returns-clause-unnamed g c it has _ = inr (inl (c.in-Err.field-0, c.in-Err.ensures.err it.clean))
