use Rattle.mvd_keys.proofs.Joins.{join_commutes, join_groups, join_repeats}
use Rattle.mvd_keys.proofs.Lists.{IsValid-join}
use Rattle.mvd_keys.proofs.laws.joins.Goals as goal

pub returns : goal.returns
returns c = record { commute = join_commutes; group = join_groups; repeat = join_repeats; valid = IsValid-join }
