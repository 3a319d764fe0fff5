use Rattle.std.proofs.Common.{refl}
use Rattle.mvd_world.specs.declared.open_world.OpenWorld.{OpenWorld}
use Rattle.mvd_world.proofs.Opened.{step_acts}
use Rattle.mvd_world.proofs.open_world.OpenWorld.step.Goals as goal

pub returns : goal.returns
returns c =
    let old = c.args.self.now in
    let new : OpenWorld = record { alloc = old.alloc; world = c.step.new.self; sessions = old.sessions } in
    step_acts old new c.args.step.now c.step.result c.step.ensures.machine refl
