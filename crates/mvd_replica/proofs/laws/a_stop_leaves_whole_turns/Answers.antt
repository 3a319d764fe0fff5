use Rattle.mvd_replica.proofs.Restarts.{left_stands}
use Rattle.mvd_replica.proofs.Stops.{held_in_file}
use Rattle.mvd_replica.proofs.laws.a_stop_leaves_whole_turns.Goals as goal

pub returns-clause-turns : goal.returns-clause-turns
returns-clause-turns g c = left_stands g.S.Store

pub returns-clause-found : goal.returns-clause-found
returns-clause-found g c = held_in_file
