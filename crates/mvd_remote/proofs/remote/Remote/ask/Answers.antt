use Rattle.std.proofs.Common.{Err, inl, inr, refl}
use Rattle.mvd_remote.proofs.remote.Remote.ask.Goals as goal

pub returns-in-Some-clause-notes : goal.returns-in-Some-clause-notes
returns-in-Some-clause-notes g c = inl (c.in-Some.refusal, refl, c.in-Some.is, refl)

pub returns-in-Err-clause-notes : goal.returns-in-Err-clause-notes
returns-in-Err-clause-notes g c = inr (Err c.in-Err.refusal, inr refl, c.and-self.ensures)
