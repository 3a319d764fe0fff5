use Rattle.std.proofs.Common.{subst, sym}
use Rattle.mvd_sync.specs.Machines.{IsFit}
use Rattle.mvd_sync.proofs.Machined.{quiet_room, went_fit}
use Rattle.mvd_sync.proofs.machine.Machine.advance.Goals as goal

pub go_far-requires : goal.go_far-requires
go_far-requires c = record { room = λ q. quiet_room c.self.inside.left c.self.inside.exchange c.replace-stage.result q (subst (λ s. IsFit c.self.inside.left c.self.inside.exchange s) (sym c.replace-stage.ensures.value) c.self.invariant) }

pub invariant_of-self : goal.invariant_of-self
invariant_of-self c = went_fit c.self.inside.left c.self.inside.exchange c.replace-stage.result c.in-Ok.ensures.went (subst (λ s. IsFit c.self.inside.left c.self.inside.exchange s) (sym c.replace-stage.ensures.value) c.self.invariant)
