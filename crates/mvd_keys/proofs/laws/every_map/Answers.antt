use Rattle.mvd_keys.proofs.Standing.{Stands-for}
use Rattle.mvd_keys.proofs.laws.every_map.Goals as goal

pub returns : goal.returns
returns c = Stands-for
