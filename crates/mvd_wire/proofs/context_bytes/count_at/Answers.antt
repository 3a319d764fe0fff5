use Rattle.std.proofs.lemmas.Result.{err_from_is_err_and}
use Rattle.mvd_wire.proofs.context_bytes.count_at.Goals as goal

pub returns-in-Second : goal.returns-in-Second
returns-in-Second c = rw c.in-Second.is c.u32_at.ensures

pub returns-in_ok-count-in-First : goal.returns-in_ok-count-in-First
returns-in_ok-count-in-First c = rw (c.in-First.is, c.from.ensures) c.in_ok-count-in-First.ensures

pub returns-in_err-count-in-First : goal.returns-in_err-count-in-First
returns-in_err-count-in-First c =
    let p = err_from_is_err_and c.from_residual.result c.from_residual.ensures.1 in
    rw (c.in-First.is, p.1, p.2) c.in_err-count-in-First.ensures
