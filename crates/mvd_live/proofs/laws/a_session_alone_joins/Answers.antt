use Rattle.mvd_live.proofs.Alone.{asks_few_alone, joins_alone}
use Rattle.mvd_live.proofs.laws.a_session_alone_joins.Goals as goal

pub returns : goal.returns
returns c = record {
  joins = λ number questions most old new legs done begins run alone next. joins_alone number questions most old legs new begins run alone done next;
  few = λ number questions most old new legs asking step differing begins run alone next differ. asks_few_alone number questions most old legs new begins run alone asking step differing next differ;
}
