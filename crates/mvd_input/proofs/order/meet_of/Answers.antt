use Rattle.std.proofs.Common.{codes}
use Rattle.std.proofs.lemmas.Result.{err_from_is_err_and}
use Rattle.clap.specs.Words.{found_of, rows_of}
use Rattle.mvd_input.specs.Orders.{IsAddressOfOrder, IsOrderOf, IsSeconds}
use Rattle.mvd_input.proofs.Ordered.{no_server, within, sync_meets}
use Rattle.mvd_input.proofs.order.meet_of.Goals as goal

pub returns-in_err-idle_in : goal.returns-in_err-idle_in
returns-in_err-idle_in c =
    let p = err_from_is_err_and c.from_residual-in_err-idle_in.result c.from_residual-in_err-idle_in.ensures.1 in
    let rows = rows_of (found_of c.args.matches.now) in
    rw (p.1, p.2) (within rows IsSeconds (IsOrderOf (codes "sync")) _ (λ order m. (sync_meets rows order m).1) c.in_err-idle_in.ensures.fault)

pub returns-in_err-address : goal.returns-in_err-address
returns-in_err-address c =
    let p = err_from_is_err_and c.from_residual.result c.from_residual.ensures.1 in
    let rows = rows_of (found_of c.args.matches.now) in
    rw (p.1, p.2) (within rows IsAddressOfOrder (IsOrderOf (codes "sync")) _ (λ order m. (sync_meets rows order m).0) c.in_err-address.ensures.fault)

pub returns-in_default : goal.returns-in_default
returns-in_default c = no_server (rows_of (found_of c.args.matches.now)) c.args.with.now c.requires.with c.in_default.ensures.none
