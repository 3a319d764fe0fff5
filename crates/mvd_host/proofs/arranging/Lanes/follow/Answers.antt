use Rattle.std.proofs.Common.{refl, arith}
use Rattle.mvd_host.specs.declared.arranging.Lanes.{Lanes}
use Rattle.mvd_host.proofs.Orders.{lays_second, lengths_are}
use Rattle.mvd_host.proofs.arranging.Lanes.follow.Goals as goal

pub push_reserved-requires : goal.push_reserved-requires
push_reserved-requires c =
    let room = c.requires.room in
    let count = lengths_are room.0 c.args.self.now room.1 in
    omega (arith, count.0, room.2.second_clients, c.args.self.now.later_clients.ok.0)

pub push_reserved-requires-2 : goal.push_reserved-requires-2
push_reserved-requires-2 c =
    let room = c.requires.room in
    let count = lengths_are room.0 c.args.self.now room.1 in
    omega (arith, count.1, room.2.second_requests, c.args.self.now.later.ok.0)

pub returns-clause-lays : goal.returns-clause-lays
returns-clause-lays c asked lays =
    let old = c.args.self.now in
    let new : Lanes = record { kind = old.kind; leading_clients = old.leading_clients; leading = old.leading; later_clients = c.push_reserved.new.self; later = c.push_reserved-2.new.self; behind = c.note.new.behind; is_shut = c.note.new.is_shut } in
    lays_second asked old new c.args.client c.args.request c.note.ensures.unshut c.note.ensures.noted refl refl c.push_reserved.ensures.items c.push_reserved-2.ensures.items lays

pub returns-clause-room : goal.returns-clause-room
returns-clause-room c most places = record {
  first_clients = places.first_clients;
  first_requests = places.first_requests;
  second_clients = omega (arith, places.second_clients, c.push_reserved.ensures.capacity);
  second_requests = omega (arith, places.second_requests, c.push_reserved-2.ensures.capacity);
}
