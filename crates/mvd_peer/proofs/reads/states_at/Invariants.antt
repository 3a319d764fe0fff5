use Rattle.std.proofs.Common.{◌≡◌, ◌+◌, ◌-◌, ◌^◌, min, take}
use Rattle.mvd_peer.specs.SiteTells.{TellsStates}
use Rattle.mvd_peer.proofs.Dropped.{bytes_of}
use Rattle.mvd_peer.proofs.reads.states_at.Given as goal

abbrev pub invariant-loop-key : goal.invariant-loop-key
invariant-loop-key l = record {
  told : TellsStates l.site (take l.key-index l.keys) l.told.items;
  bytes : l.bytes ≡ min (0 + bytes_of l.told.items) (2 ^ 64 - 1);
}
