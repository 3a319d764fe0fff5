use Rattle.std.proofs.Common.{ℕ, ◌+◌}
use Rattle.mvd_peer.specs.PeerSides.{sides_of}
use Rattle.mvd_sync.specs.Machines.{Starts}
use Rattle.mvd_sync.specs.Ran.{RunsTo, now_at}
use Rattle.mvd_sync.proofs.session.converse.Given as goal

-- it is a run so far
abbrev pub invariant-windows : goal.invariant-windows
invariant-windows g l = record {
  questions : ℕ;
  starts : Starts (g.L.Peer.number l.fn.local) questions l.fn.machine;
  runs : RunsTo (sides_of g.L.Peer g.P.Peer) (now_at l.fn.machine l.fn.local l.fn.peer) (now_at l.machine l.local l.peer);
}

abbrev pub decreases-windows : goal.decreases-windows
decreases-windows g l = l.machine.left.local + l.machine.left.peer
