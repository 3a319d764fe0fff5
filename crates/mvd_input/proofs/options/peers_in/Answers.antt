use Rattle.std.proofs.Common.{codes, refl}
use Rattle.std.proofs.lemmas.Result.{err_from_is_err_and}
use Rattle.clap.specs.Words.{found_of, rows_of}
use Rattle.mvd_input.specs.Orders.{IsPeersOf}
use Rattle.mvd_input.proofs.Ordered.{peers_every, without}
use Rattle.mvd_input.proofs.options.peers_in.Goals as goal

pub returns-in_err-every-in-Some-clause-fault : goal.returns-in_err-every-in-Some-clause-fault
returns-in_err-every-in-Some-clause-fault c =
    let p = err_from_is_err_and c.from_residual.result c.from_residual.ensures.1 in
    let rows = rows_of (found_of c.args.matches.now) in
    rw (p.1, p.2) (without rows (codes "every") 3600 IsPeersOf _ refl (peers_every rows _ c.in-Some.ensures) c.in_err-every-in-Some.ensures)
