use Rattle.std.proofs.Common.{ℕ, ◌+◌, ◌*◌, List, length, true, false}
use Rattle.mvd_docs.specs.Plain.{BeginsWithItems, BeginsWithMembers}
use Rattle.mvd_docs.specs.Rising.{StandsBefore}
use Rattle.mvd_docs.proofs.plain.+values.Given as goal

abbrev pub decreases-value : goal.decreases-value
decreases-value l = 3 * l.room

abbrev pub decreases-member : goal.decreases-member
decreases-member l = 3 * l.room + 1

abbrev pub decreases-items : goal.decreases-items
decreases-items l = 3 * l.room + 2

abbrev pub decreases-members : goal.decreases-members
decreases-members l = 3 * l.room + 2

-- where the rest is further items, the whole is items
abbrev pub invariant-items-loop-more : goal.invariant-items-loop-more
invariant-items-loop-more l = (r : List ℕ) → BeginsWithItems l.room true l.rest r → BeginsWithItems l.room false l.text r

abbrev pub decreases-items-loop-more : goal.decreases-items-loop-more
decreases-items-loop-more l = length l.rest

-- where the rest is further members, which come behind the name, the whole is members
abbrev pub invariant-members-loop-more : goal.invariant-members-loop-more
invariant-members-loop-more l =
    (r : List ℕ) (m : BeginsWithMembers l.room true l.rest r) → StandsBefore l.name m.members → BeginsWithMembers l.room false l.text r

abbrev pub decreases-members-loop-more : goal.decreases-members-loop-more
decreases-members-loop-more l = length l.rest
