use Rattle.std.proofs.Common.{◌∙◌, Some, ap, codes, nat_eq}
use Rattle.std.specs.Option.{option_eq}
use Rattle.std.proofs.lemmas.Result.{err_from_is_err_and}
use Rattle.clap.specs.Words.{found_of, rows_of}
use Rattle.mvd_input.specs.Orders.{IsAddressOfOrder, IsClients, IsNamedOf, IsOrderOf, IsPeersOf, IsSeconds}
use Rattle.mvd_input.proofs.Ordered.{one_port, within, serve_clients, serve_meets, serve_named, serve_peers}
use Rattle.mvd_input.proofs.order.serve_of.Goals as goal

pub returns-then-eq : goal.returns-then-eq
returns-then-eq c = one_port (rows_of (found_of c.args.matches.now)) c.in_ok-address.address c.in_ok-http.http
    c.in_ok-address.ensures.address c.in_ok-http.ensures.port (c.if-eq.ensures ∙ ap (λ p. option_eq nat_eq c.in_ok-http.http (Some p)) c.port.ensures)

pub returns-in_err-idle_in : goal.returns-in_err-idle_in
returns-in_err-idle_in c =
    let p = err_from_is_err_and c.from_residual-in_err-idle_in.result c.from_residual-in_err-idle_in.ensures.1 in
    let rows = rows_of (found_of c.args.matches.now) in
    rw (p.1, p.2) (within rows IsSeconds (IsOrderOf (codes "serve")) _ (λ order m. (serve_meets rows order m).1) c.in_err-idle_in.ensures.fault)

pub returns-in_err-address : goal.returns-in_err-address
returns-in_err-address c =
    let p = err_from_is_err_and c.from_residual.result c.from_residual.ensures.1 in
    let rows = rows_of (found_of c.args.matches.now) in
    rw (p.1, p.2) (within rows IsAddressOfOrder (IsOrderOf (codes "serve")) _ (λ order m. (serve_meets rows order m).0) c.in_err-address.ensures.fault)

pub returns-in_err-clients_in : goal.returns-in_err-clients_in
returns-in_err-clients_in c =
    let p = err_from_is_err_and c.from_residual-in_err-clients_in.result c.from_residual-in_err-clients_in.ensures.1 in
    let rows = rows_of (found_of c.args.matches.now) in
    rw (p.1, p.2) (within rows IsClients (IsOrderOf (codes "serve")) _ (λ order m. serve_clients rows order m) c.in_err-clients_in.ensures.fault)

pub returns-in_err-peers_in : goal.returns-in_err-peers_in
returns-in_err-peers_in c =
    let p = err_from_is_err_and c.from_residual-in_err-peers_in.result c.from_residual-in_err-peers_in.ensures.1 in
    let rows = rows_of (found_of c.args.matches.now) in
    rw (p.1, p.2) (within rows IsPeersOf (IsOrderOf (codes "serve")) _ (λ order m. serve_peers rows order m) c.in_err-peers_in.ensures.fault)

pub returns-in_err-named_in : goal.returns-in_err-named_in
returns-in_err-named_in c =
    let p = err_from_is_err_and c.from_residual-in_err-named_in.result c.from_residual-in_err-named_in.ensures.1 in
    let rows = rows_of (found_of c.args.matches.now) in
    rw (p.1, p.2) (within rows IsNamedOf (IsOrderOf (codes "serve")) _ (λ order m. serve_named rows order m) c.in_err-named_in.ensures.fault)
