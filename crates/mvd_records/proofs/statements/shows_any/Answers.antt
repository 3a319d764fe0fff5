use Rattle.std.proofs.Common.{arith}
use Rattle.mvd_records.proofs.Calls.{sound_before, not_shown, shown_open, shown_on, shown_keeps}
use Rattle.mvd_records.proofs.statements.shows_any.Goals as goal

pub returns-in-Ok-clause-before : goal.returns-in-Ok-clause-before
returns-in-Ok-clause-before g c it = record { clean = omega (arith, c.in-Ok.ensures.survives.clean, it.clean); is_open = shown_open _ _ _ _ _ (c.in-Ok.ensures.ok it.clean) }

pub returns-in-Ok-clause-open : goal.returns-in-Ok-clause-open
returns-in-Ok-clause-open g c clean = shown_on _ _ _ _ _ (c.in-Ok.ensures.ok clean)

pub returns-in-Ok-clause-kept : goal.returns-in-Ok-clause-kept
returns-in-Ok-clause-kept g c clean plain = shown_keeps _ _ _ _ _ plain (c.in-Ok.ensures.ok clean)

pub returns-in-Err-clause-before : goal.returns-in-Err-clause-before
returns-in-Err-clause-before g c = sound_before _ _ c.in-Err.ensures.survives.clean (λ clean. not_shown _ _ _ _ _ (c.in-Err.ensures.err clean))

pub returns-in-Err-clause-kept : goal.returns-in-Err-clause-kept
returns-in-Err-clause-kept g c clean plain = not_shown _ _ _ _ _ (c.in-Err.ensures.err clean)
