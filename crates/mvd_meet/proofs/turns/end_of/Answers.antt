use Rattle.std.proofs.Common.{sym, subst}
use Rattle.mvd_dots.specs.declared.refusals.Refusal.TheVariants.{Truncated}
use Rattle.mvd_meet.specs.Turns.{EndsWith}
use Rattle.mvd_meet.proofs.Taking.{cut_part, no_some}
use Rattle.mvd_meet.proofs.turns.end_of.Goals as goal

pub returns-in-Part : goal.returns-in-Part
returns-in-Part c = subst (λ r. EndsWith r c.args.bytes.now Truncated) (sym (no_some c.args.refused c.in_default.not-Some)) (λ kind. cut_part c.args.bytes.now kind c.in-Part.ensures)
