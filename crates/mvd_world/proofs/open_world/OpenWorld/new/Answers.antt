use Rattle.std.proofs.Common.{sym}
use Rattle.mvd_world.proofs.open_world.OpenWorld.new.Goals as goal

pub returns-clause-world : goal.returns-clause-world
returns-clause-world c = record { world = c.in_ok-new.ensures.world; sessions = sym c.new-2.ensures.items; sent = tt }
