use Rattle.std.proofs.Common.{inl, inr, refl}
use Rattle.mvd_client.specs.Pushing.{turns_self}
use Rattle.mvd_client.proofs.pushing.tell.Goals as goal

pub returns-in-Ok-clause-told : goal.returns-in-Ok-clause-told
returns-in-Ok-clause-told g c = inl (c.in-Ok.ensures.told, refl)

pub returns-in-Ok-clause-turns : goal.returns-in-Ok-clause-turns
returns-in-Ok-clause-turns g c = turns_self c.args.replica.now

pub returns-in-Err-clause-told : goal.returns-in-Err-clause-told
returns-in-Err-clause-told g c = inr (c.in-Err.pairs.now, c.in-Err.ensures.pushes, c.push_window.ensures.told)
