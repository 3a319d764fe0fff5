use Rattle.std.proofs.Common.{refl, arith}
use Rattle.mvd_host.specs.declared.arranging.Lanes.{Lanes}
use Rattle.mvd_host.proofs.Orders.{lays_first, lengths_are}
use Rattle.mvd_host.proofs.arranging.Lanes.lead.Goals as goal

pub push_reserved-requires : goal.push_reserved-requires
push_reserved-requires c =
    let room = c.requires.room in
    let count = lengths_are room.0 c.args.self.now room.1 in
    omega (arith, count.0, room.2.first_clients, c.args.self.now.leading_clients.ok.0)

pub push_reserved-requires-2 : goal.push_reserved-requires-2
push_reserved-requires-2 c =
    let room = c.requires.room in
    let count = lengths_are room.0 c.args.self.now room.1 in
    omega (arith, count.1, room.2.first_requests, c.args.self.now.leading.ok.0)

pub returns-clause-lays : goal.returns-clause-lays
returns-clause-lays c asked lays =
    let old = c.args.self.now in
    let new : Lanes = record { kind = old.kind; leading_clients = c.push_reserved.new.self; leading = c.push_reserved-2.new.self; later_clients = old.later_clients; later = old.later; behind = old.behind; is_shut = old.is_shut } in
    lays_first asked old new c.args.client c.args.request c.requires.unshut c.requires.none c.push_reserved.ensures.items c.push_reserved-2.ensures.items refl refl refl refl lays

pub returns-clause-room : goal.returns-clause-room
returns-clause-room c most places = record {
  first_clients = omega (arith, places.first_clients, c.push_reserved.ensures.capacity);
  first_requests = omega (arith, places.first_requests, c.push_reserved-2.ensures.capacity);
  second_clients = places.second_clients;
  second_requests = places.second_requests;
}
