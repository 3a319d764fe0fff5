use Rattle.std.proofs.Common.{◌≡◌, ◌++◌, length}
use Rattle.mvd_sync.specs.Meetings.{noted}
use Rattle.mvd_sync.proofs.meetings.note.Given as goal

abbrev pub invariant-loop-meeting : goal.invariant-loop-meeting
invariant-loop-meeting l = noted l.side l.fn.meetings.items l.fn.told.items ≡ l.after.items ++ noted l.side l.meetings.items l.told.items

abbrev pub decreases-loop-meeting : goal.decreases-loop-meeting
decreases-loop-meeting l = length l.meetings.items
