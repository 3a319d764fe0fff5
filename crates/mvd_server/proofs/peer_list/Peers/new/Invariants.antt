use Rattle.std.specs.Prelude.{◌≡◌}
use Rattle.mvd_server.specs.Peerings.{places_taken}
use Rattle.mvd_server.proofs.peer_list.Peers.new.Given as goal

abbrev pub invariant-loop-address : goal.invariant-loop-address
invariant-loop-address l = places_taken l.list.items ≡ 0
