use Rattle.mvd_conn.proofs.Hellos.{shown_known}
use Rattle.mvd_conn.proofs.laws.one_pass.Goals as goal

pub returns : goal.returns
returns c = shown_known
