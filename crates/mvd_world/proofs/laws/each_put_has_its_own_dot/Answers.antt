use Rattle.mvd_world.proofs.Happening.{own_dots_of_events}
use Rattle.mvd_world.proofs.laws.each_put_has_its_own_dot.Goals as goal

pub returns : goal.returns
returns c = own_dots_of_events
