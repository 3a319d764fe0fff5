use Rattle.sqlite.specs.Held.{state}
use Rattle.mvd_runs.proofs.Filing.{run_closed, run_stopped}
use Rattle.mvd_runs.proofs.laws.a_run_is_events.Goals as goal

pub returns-clause-closed : goal.returns-clause-closed
returns-clause-closed g c = λ i calls run begins number closes. run_closed (state g.S.Store) i calls run begins number closes

pub returns-clause-stopped : goal.returns-clause-stopped
returns-clause-stopped g c = λ i calls run begins number stops. run_stopped (state g.S.Store) i calls run begins number stops
