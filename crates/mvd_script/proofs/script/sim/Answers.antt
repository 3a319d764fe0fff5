use Rattle.std.proofs.Common.{Err, ap, inr, refl}
use Rattle.mvd_script.proofs.script.sim.Goals as goal

pub returns-in-Err-clause-played : goal.returns-in-Err-clause-played
returns-in-Err-clause-played g c = inr (refl, (c.in-Err.fault, refl, (c.in-Err.ensures.refused, λ is. c.in-Err.ensures.long (ap Err is))))
