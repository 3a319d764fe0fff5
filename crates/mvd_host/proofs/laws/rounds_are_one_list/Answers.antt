use Rattle.sqlite.specs.Held.{state}
use Rattle.mvd_host.proofs.Runs.{one_list, tells_gone}
use Rattle.mvd_host.proofs.laws.rounds_are_one_list.Goals as goal

pub returns : goal.returns
returns g c = record { list = one_list (state g.S.Store); gone = tells_gone (state g.S.Store) }
