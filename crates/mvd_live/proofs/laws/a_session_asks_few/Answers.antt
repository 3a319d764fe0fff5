use Rattle.mvd_live.proofs.FewWhole.{asks_few}
use Rattle.mvd_live.proofs.Spent.{spent_all}
use Rattle.mvd_live.proofs.Written.{written_differ}
use Rattle.mvd_live.proofs.laws.a_session_asks_few.Goals as goal

pub returns : goal.returns
returns c = record {
  few = λ number questions most old new legs asking step differed begins run next all. asks_few number questions most old legs new begins run differed all asking step next;
  spent = spent_all;
  written = λ number questions most old new legs keys begins run differ written written'. written_differ most legs old new begins.local begins.peer run keys differ written written';
}
