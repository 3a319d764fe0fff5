use Rattle.std.proofs.Common.{◌∙◌, ap, refl, sym}
use Rattle.std.specs.Prelude.{Err}
use Rattle.mvd_sync.specs.Machines.{fault_at, goes, of_other, of_side}
use Rattle.mvd_sync.proofs.hearing.hear_side.Goals as goal

pub returns-in-Err : goal.returns-in-Err
returns-in-Err c = of_other c.in-Err.refusal (sym c.told_nothing.ensures ∙ c.in-Err.is) (ap Err (c.fault_at.ensures ∙ ap (λ s. fault_at s c.in-Err.refusal) c.other_of.ensures))

pub returns-in-Ok-hear_turn : goal.returns-in-Ok-hear_turn
returns-in-Ok-hear_turn c = goes c.in-Ok-hear_turn.stage (sym c.told_nothing.ensures ∙ c.in-Ok.is) c.in-Ok-hear_turn.ensures.pushed refl

pub returns-in-Err-hear_turn : goal.returns-in-Err-hear_turn
returns-in-Err-hear_turn c = of_side c.in-Err-hear_turn.refusal c.in-Err-hear_turn.ensures.ended (cc)
