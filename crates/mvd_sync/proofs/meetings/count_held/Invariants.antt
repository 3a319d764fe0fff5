use Rattle.std.proofs.Common.{◌≡◌, ◌≤◌, length, take}
use Rattle.mvd_sync.specs.Meetings.{held_keys}
use Rattle.mvd_sync.proofs.meetings.count_held.Given as goal

abbrev pub invariant-loop-entry : goal.invariant-loop-entry
invariant-loop-entry l = record {
  count : l.count ≡ length (held_keys l.side (take l.entry-index l.entries));
  within : l.count ≤ l.entry-index;
}
