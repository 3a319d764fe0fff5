use Rattle.std.proofs.Common.{◌≡◌, drop}
use Rattle.mvd_meet.specs.Posts.{has_turns}
use Rattle.mvd_meet.proofs.turns.has_turns.Given as goal

-- what is left of the requests and of the bytes says the same
abbrev pub invariant-loop-none : goal.invariant-loop-none
invariant-loop-none l = has_turns (drop l.none-index l.nones) l.rest ≡ has_turns l.nones l.bytes
