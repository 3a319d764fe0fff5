use Rattle.std.proofs.Common.{◌≡◌, ◌+◌, ◌-◌, ◌^◌, length, min}
use Rattle.mvd_peer.specs.Windows.{AreWithin}
use Rattle.mvd_peer.proofs.Dropped.{bytes_of}
use Rattle.mvd_site_tests.proofs.peers.Counting.states.Given as goal

abbrev pub invariant-loop-key : goal.invariant-loop-key
invariant-loop-key l = record {
  count : length l.told.items ≡ l.key-index;
  within : AreWithin 0 l.told.items;
  bytes : l.bytes ≡ min (0 + bytes_of l.told.items) (2 ^ 64 - 1);
}
