use Rattle.mvd_keys.proofs.Joins.{apart_empty, empty_apart, join_empty_left, join_empty_right}
use Rattle.mvd_keys.proofs.Lists.{IsValid-empty}
use Rattle.mvd_keys.proofs.laws.empty_joins.Goals as goal

pub returns : goal.returns
returns c = record { left = join_empty_left; right = join_empty_right; apart = apart_empty; back = empty_apart; valid = IsValid-empty }
