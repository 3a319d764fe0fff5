use Rattle.std.proofs.Common.{take}
use Rattle.mvd_world.specs.Machine.{setting_of}
use Rattle.mvd_world.proofs.Opened.{ActedSoFar}
use Rattle.mvd_world.proofs.open_world.run_acts.Given as goal

-- what the acts taken so far have led to
abbrev pub invariant-loop-act : goal.invariant-loop-act
invariant-loop-act l = ActedSoFar (setting_of l.fn.count l.fn.max_keys l.fn.defs) (take l.act-index l.acts) l.cames.items l.world
