use Rattle.std.proofs.Common.{◌≡◌, map, filter_map}
use Rattle.mvd_sync.specs.Meetings.{pushed_pair, taken_from}
use Rattle.mvd_sync.proofs.meetings.taken.Given as goal

abbrev pub invariant-loop-meeting : goal.invariant-loop-meeting
invariant-loop-meeting l = record { asked : l.asked.items ≡ map (taken_from l.side) l.yielded; pairs : l.pairs.items ≡ filter_map (pushed_pair l.side) l.yielded }
