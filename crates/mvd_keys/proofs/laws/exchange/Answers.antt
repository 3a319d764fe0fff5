use Rattle.mvd_keys.proofs.Joins.{apart_joined, clashes_turned, join_again, join_back, joined_apart}
use Rattle.mvd_keys.proofs.laws.exchange.Goals as goal

pub returns : goal.returns
returns c = record { turned = clashes_turned; apart = apart_joined; back = joined_apart; same = join_back; again = join_again }
