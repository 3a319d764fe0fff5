use Rattle.std.proofs.Common.{codes, refl}
use Rattle.std.proofs.lemmas.Result.{err_from_is_err_and}
use Rattle.std.specs.Net.Socket.{socket_port}
use Rattle.clap.specs.Words.{found_of, rows_of}
use Rattle.mvd_input.specs.Orders.{IsAddressOfOrder, IsIpOf}
use Rattle.mvd_input.proofs.Ordered.{within, without}
use Rattle.mvd_input.proofs.options.address_in.Goals as goal

pub returns-in_err-port-clause-fault : goal.returns-in_err-port-clause-fault
returns-in_err-port-clause-fault c =
    let p = err_from_is_err_and c.from_residual.result c.from_residual.ensures.1 in
    let rows = rows_of (found_of c.args.matches.now) in
    rw (p.1, p.2) (without rows (codes "port") 65535 IsAddressOfOrder _ refl (λ a m. (socket_port a, m.port)) c.in_err-port.ensures)

pub returns-in_err-ip_in-clause-fault : goal.returns-in_err-ip_in-clause-fault
returns-in_err-ip_in-clause-fault c =
    let p = err_from_is_err_and c.from_residual-in_err-ip_in.result c.from_residual-in_err-ip_in.ensures.1 in
    let rows = rows_of (found_of c.args.matches.now) in
    rw (p.1, p.2) (within rows IsIpOf IsAddressOfOrder _ (λ a m. (_, m.ip)) c.in_err-ip_in.ensures.fault)
