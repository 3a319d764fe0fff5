use Rattle.mvd_keys.proofs.Growing.{delete_grows, grows, join_above, put_grows}
use Rattle.mvd_keys.proofs.Joins.{join_back, join_repeats}
use Rattle.mvd_keys.proofs.Ordered.{included_apart, included_both, includes_on}
use Rattle.mvd_keys.proofs.laws.including.Goals as goal

pub returns : goal.returns
returns c = record {
  itself = join_repeats;
  on = includes_on;
  put = put_grows;
  delete = delete_grows;
  joined = λ s t p q apart. (join_above s t p q, join_back s t p q apart);
  writes = grows;
  apart = included_apart;
  both = included_both;
}
