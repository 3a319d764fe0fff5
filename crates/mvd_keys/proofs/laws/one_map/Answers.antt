use Rattle.mvd_keys.proofs.Standing.{Stands-SameWrites, Stands-one}
use Rattle.mvd_keys.proofs.laws.one_map.Goals as goal

pub returns : goal.returns
returns c = record { set = Stands-SameWrites; one = Stands-one }
