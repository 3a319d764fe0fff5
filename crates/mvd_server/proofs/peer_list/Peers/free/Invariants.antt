use Rattle.std.specs.Prelude.{◌≡◌, ◌-◌, take}
use Rattle.mvd_server.specs.Peerings.{places_taken}
use Rattle.mvd_server.proofs.peer_list.Peers.free.Given as goal

abbrev pub invariant-loop-peering : goal.invariant-loop-peering
invariant-loop-peering l = l.free ≡ 4 - places_taken (take l.peering-index l.peering-items)
