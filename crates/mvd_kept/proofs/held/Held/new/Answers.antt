use Rattle.mvd_kept.proofs.HeldMaps.{held_none}
use Rattle.mvd_kept.proofs.held.Held.new.Goals as goal

pub invariant_of-result : goal.invariant_of-result
invariant_of-result c = held_none c.new.result.entries c.new.ensures.empty
