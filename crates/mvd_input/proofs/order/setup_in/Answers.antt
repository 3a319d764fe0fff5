use Rattle.std.proofs.Common.{Some, ap, codes, refl, sym}
use Rattle.std.proofs.lemmas.Result.{err_from_is_err_and}
use Rattle.clap.specs.Words.{found_of, rows_of}
use Rattle.mvd_input.specs.Orders.{IsSetupOf}
use Rattle.mvd_input.proofs.Ordered.{without}
use Rattle.mvd_input.proofs.order.setup_in.Goals as goal

pub returns-in_err-given_in-clause-fault : goal.returns-in_err-given_in-clause-fault
returns-in_err-given_in-clause-fault c =
    let p = err_from_is_err_and c.from_residual.result c.from_residual.ensures.1 in
    let rows = rows_of (found_of c.args.matches.now) in
    rw (p.1, p.2) (without rows (codes "site") 4294967295 IsSetupOf _ refl (λ s m. (s.site, m.site)) c.in_err-given_in.ensures)

pub returns-in_err-given_in-2-clause-fault : goal.returns-in_err-given_in-2-clause-fault
returns-in_err-given_in-2-clause-fault c =
    let p = err_from_is_err_and c.from_residual-in_err-given_in-2.result c.from_residual-in_err-given_in-2.ensures.1 in
    let rows = rows_of (found_of c.args.matches.now) in
    rw (p.1, p.2) (without rows (codes "max-keys") _ IsSetupOf _ (ap Some (sym c.from.ensures)) (λ s m. (s.max_keys, m.max_keys)) c.in_err-given_in-2.ensures)
