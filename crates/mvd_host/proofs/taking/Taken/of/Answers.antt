use Rattle.std.proofs.Common.{[], subst, sym}
use Rattle.mvd_host.specs.Taking.{AreFaults}
use Rattle.mvd_host.proofs.Orders.{zip_clients, zip_requests}
use Rattle.mvd_host.proofs.taking.Taken.of.Goals as goal

pub returns-clause-holds : goal.returns-clause-holds
returns-clause-holds c = record {
  clients = zip_clients c.args.clients.items c.args.requests.items c.requires;
  requests_are = zip_requests c.args.clients.items c.args.requests.items c.requires;
  faults = subst (AreFaults []) (sym c.new.ensures.items) tt;
}
