use Rattle.std.proofs.Common.{List, ◌++◌, length}
use Rattle.mvd_sync.specs.Meetings.{ArePlans}
use Rattle.mvd_sync.specs.declared.meetings.Meeting.{Meeting}
use Rattle.mvd_sync.proofs.meetings.plan_all.Given as goal

-- the plans of what is left complete those made
abbrev pub invariant-loop-entry : goal.invariant-loop-entry
invariant-loop-entry l = (ms : List Meeting) → ArePlans l.number l.entries.items l.mine.items l.theirs.items ms → ArePlans l.number l.fn.entries.items l.fn.mine.items l.fn.theirs.items (l.meetings.items ++ ms)

abbrev pub decreases-loop-entry : goal.decreases-loop-entry
decreases-loop-entry l = length l.entries.items
