use Rattle.mvd_conn.proofs.Guarded.{may_met}
use Rattle.mvd_conn.proofs.laws.one_right.Goals as goal

pub returns : goal.returns
returns c = may_met
