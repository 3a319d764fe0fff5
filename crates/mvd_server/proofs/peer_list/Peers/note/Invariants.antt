use Rattle.std.specs.Prelude.{◌≤◌}
use Rattle.mvd_server.specs.Peerings.{places_taken}
use Rattle.mvd_server.proofs.peer_list.Peers.note.Given as goal

-- no place was taken
abbrev pub invariant-loop-peering : goal.invariant-loop-peering
invariant-loop-peering l = places_taken l.peering-items ≤ 4
