use Rattle.std.proofs.lemmas.Result.{err_from_is_err_and}
use Rattle.mvd_wire.proofs.values.site_at.Goals as goal

pub returns-in_ok-site-in-First : goal.returns-in_ok-site-in-First
returns-in_ok-site-in-First c = rw (c.in-First.is, c.from.ensures) c.in_ok-site-in-First.ensures

pub returns-in_err-site-in-First : goal.returns-in_err-site-in-First
returns-in_err-site-in-First c =
    let p = err_from_is_err_and c.from_residual.result c.from_residual.ensures.1 in
    rw (c.in-First.is, p.1, p.2) c.in_err-site-in-First.ensures
