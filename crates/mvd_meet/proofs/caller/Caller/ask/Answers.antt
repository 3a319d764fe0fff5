use Rattle.std.proofs.Common.{inl, inr, refl}
use Rattle.mvd_meet.proofs.caller.Caller.ask.Goals as goal

pub returns-then-not-is_quiet-clause-cannot : goal.returns-then-not-is_quiet-clause-cannot
returns-then-not-is_quiet-clause-cannot c = inr (inl (refl, c.is_quiet.ensures.busy c.if-not-is_quiet.true))
