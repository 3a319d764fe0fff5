use Rattle.std.proofs.Common.{codes}
use Rattle.std.proofs.lemmas.Result.{err_from_is_err_and}
use Rattle.clap.specs.Words.{found_of, rows_of}
use Rattle.mvd_input.specs.Orders.{IsAddressOfOrder, IsOrderOf, IsSeconds}
use Rattle.mvd_input.proofs.Ordered.{within, sync_meets}
use Rattle.mvd_input.proofs.order.sync_of.Goals as goal

pub returns-in_err-idle_in-in-None : goal.returns-in_err-idle_in-in-None
returns-in_err-idle_in-in-None c =
    let p = err_from_is_err_and c.from_residual-in_err-idle_in-in-None.result c.from_residual-in_err-idle_in-in-None.ensures.1 in
    let rows = rows_of (found_of c.args.matches.now) in
    rw (p.1, p.2) (within rows IsSeconds (IsOrderOf (codes "sync")) _ (λ order m. (sync_meets rows order m).1) c.in_err-idle_in-in-None.ensures.fault)

pub returns-in_err-address_in-in-None : goal.returns-in_err-address_in-in-None
returns-in_err-address_in-in-None c =
    let p = err_from_is_err_and c.from_residual-in_err-address_in-in-None.result c.from_residual-in_err-address_in-in-None.ensures.1 in
    let rows = rows_of (found_of c.args.matches.now) in
    rw (p.1, p.2) (within rows IsAddressOfOrder (IsOrderOf (codes "sync")) _ (λ order m. (sync_meets rows order m).0) c.in_err-address_in-in-None.ensures.fault)
