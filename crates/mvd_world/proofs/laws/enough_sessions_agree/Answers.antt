use Rattle.mvd_world.proofs.Agreed.{agreed}
use Rattle.mvd_world.proofs.laws.enough_sessions_agree.Goals as goal

pub returns : goal.returns
returns c = agreed
