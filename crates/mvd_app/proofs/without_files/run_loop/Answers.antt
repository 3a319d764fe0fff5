use Rattle.std.proofs.Common.{Err, Ok, inl, inr, refl, subst, sym}
use Rattle.std.proofs.lemmas.Result.{err_from_is_err_and}
use Rattle.mvd_app.specs.Named.{StopsAtDefs}
use Rattle.mvd_app.proofs.without_files.run_loop.Goals as goal

pub returns-in_err-config : goal.returns-in_err-config
returns-in_err-config g c =
    let stopped = err_from_is_err_and c.from_residual.result c.from_residual.ensures.1 in
    inr ((stopped.0, stopped.1, subst (StopsAtDefs c.args.setup.defs) (sym stopped.2) c.in_err-config.ensures.stopped), refl, refl)

pub returns-in-Ok : goal.returns-in-Ok
returns-in-Ok g c = inl (_, c.in_ok-config.ensures.config, Ok tt, c.in-Ok.ensures, refl)

pub returns-in-Err : goal.returns-in-Err
returns-in-Err g c = inl (_, c.in_ok-config.ensures.config, Err c.in-Err.fault, c.in-Err.ensures, (c.unlooped.result, refl, c.unlooped.ensures))
