use Rattle.std.proofs.Common.{Ok, Err}
use Rattle.mvd_records.proofs.Inside.{execute_stays, ran_inside}
use Rattle.mvd_records.proofs.jobs.execute.Goals as goal

pub returns-in-Ok-clause-stays : goal.returns-in-Ok-clause-stays
returns-in-Ok-clause-stays g c = execute_stays _ _ _ _ (Ok c.in-Ok.count) c.in-Ok.ensures.runs c.in-Ok.ensures.survives

pub returns-in-Ok-clause-ran : goal.returns-in-Ok-clause-ran
returns-in-Ok-clause-ran g c clean inside = ran_inside _ _ _ _ c.in-Ok.count (c.in-Ok.ensures.runs clean inside)

pub returns-in-Err-clause-stays : goal.returns-in-Err-clause-stays
returns-in-Err-clause-stays g c = execute_stays _ _ _ _ (Err c.in-Err.field-0) c.in-Err.ensures.runs c.in-Err.ensures.survives
