use Rattle.std.proofs.Common.{Err, Ok, refl}
use Rattle.mvd_app.proofs.without_files.run_sim.Goals as goal

pub returns-in-Ok : goal.returns-in-Ok
returns-in-Ok g c = (Ok tt, c.in-Ok.ensures.played, refl)

pub returns-in-Err : goal.returns-in-Err
returns-in-Err g c = (Err c.in-Err.fault, c.in-Err.ensures.played, (c.in_input.result, refl, c.in_input.ensures.fault))
