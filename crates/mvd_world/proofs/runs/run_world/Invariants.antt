use Rattle.std.proofs.Common.{take}
use Rattle.mvd_world.specs.Machine.{setting_of}
use Rattle.mvd_world.proofs.Chained.{SoFar}
use Rattle.mvd_world.proofs.runs.run_world.Given as goal

-- what the steps taken so far have led to
abbrev pub invariant-loop-step : goal.invariant-loop-step
invariant-loop-step l = SoFar (setting_of l.fn.count l.fn.max_keys l.fn.defs) (take l.step-index l.steps) l.outcomes.items l.world
