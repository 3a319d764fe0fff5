use Rattle.std.proofs.Common.{◌≡◌, length, take, zip}
use Rattle.mvd_host.specs.Arranging.{HasPlaces, Lays}
use Rattle.mvd_host.proofs.arranging.Lanes.place_all.Given as goal

-- those so far are placed
abbrev pub invariant-loop-request : goal.invariant-loop-request
invariant-loop-request l = record {
  place : l.at ≡ length l.yielded;
  lays : Lays (zip (take (length l.yielded) l.clients) l.yielded) l.self;
  room : HasPlaces (length l.fn.requests.items) l.self;
}
