use Rattle.std.proofs.Common.{◌≡◌, take}
use Rattle.mvd_sync.specs.Meetings.{held_keys}
use Rattle.mvd_sync.proofs.meetings.keys_held.Given as goal

abbrev pub invariant-loop-entry : goal.invariant-loop-entry
invariant-loop-entry l = l.keys.items ≡ held_keys l.side (take l.entry-index l.entries)
