use Rattle.mvd_conn.proofs.CourseLemmas.{asks_bye, bye_asks}
use Rattle.mvd_conn.proofs.laws.one_bye.Goals as goal

pub returns : goal.returns
returns c = record { asks = bye_asks; alone = asks_bye }
