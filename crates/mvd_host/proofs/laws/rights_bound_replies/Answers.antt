use Rattle.mvd_host.proofs.Within.{within}
use Rattle.mvd_host.proofs.laws.rights_bound_replies.Goals as goal

pub returns : goal.returns
returns c = within
