use Rattle.mvd_host.proofs.Orders.{lays_none}
use Rattle.mvd_host.proofs.arranging.Lanes.with_room.Goals as goal

pub returns-clause-lays : goal.returns-clause-lays
returns-clause-lays c =
    lays_none _ c.in_ok-leading_clients.ensures.items c.in_ok-leading.ensures.items c.in_ok-later_clients.ensures.items c.in_ok-later.ensures.items

pub returns-clause-room : goal.returns-clause-room
returns-clause-room c = record {
  first_clients = c.in_ok-leading_clients.ensures.capacity;
  first_requests = c.in_ok-leading.ensures.capacity;
  second_clients = c.in_ok-later_clients.ensures.capacity;
  second_requests = c.in_ok-later.ensures.capacity;
}
