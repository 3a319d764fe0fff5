use Rattle.std.proofs.Common.{ap, subst}
use Rattle.mvd_host.specs.Hosts.{Admits}
use Rattle.mvd_server.specs.Talking.{talking_of, with_host}
use Rattle.mvd_server.proofs.Deeds.{comes_frames, comes_told, deeds_same, stays_told}
use Rattle.mvd_server.proofs.talks.Talks.admit_frames.Goals as goal

pub returns-in-Ok-clause-deeds : goal.returns-in-Ok-clause-deeds
returns-in-Ok-clause-deeds c = comes_frames (talking_of c.args.self.now) c.in-Ok.number c.admit.new.self (subst (λ guard. Admits guard c.args.self.now.host c.in-Ok.number c.admit.new.self) c.first_guard-guard.ensures c.in-Ok.ensures.ok)

pub returns-in-Err-clause-deeds : goal.returns-in-Err-clause-deeds
returns-in-Err-clause-deeds c = deeds_same (talking_of c.args.self.now) (with_host (talking_of c.args.self.now) c.admit.new.self) (ap (with_host (talking_of c.args.self.now)) c.in-Err.ensures.err.1)

pub returns-in-Ok-clause-comes : goal.returns-in-Ok-clause-comes
returns-in-Ok-clause-comes c = comes_told (talking_of c.args.self.now) c.in-Ok.number c.admit.new.self (subst (λ guard. Admits guard c.args.self.now.host c.in-Ok.number c.admit.new.self) c.first_guard-guard.ensures c.in-Ok.ensures.ok)

pub returns-in-Ok-clause-none : goal.returns-in-Ok-clause-none
returns-in-Ok-clause-none c = stays_told (talking_of c.args.self.now) c.in-Ok.number c.admit.new.self (subst (λ guard. Admits guard c.args.self.now.host c.in-Ok.number c.admit.new.self) c.first_guard-guard.ensures c.in-Ok.ensures.ok)
