use Rattle.mvd_sync.specs.Made.{PassesFault}
use Rattle.mvd_peer.specs.Windows.{ForEach}
use Rattle.mvd_sync.proofs.made.made_all.Given as goal

-- what was made of the first answers
abbrev pub invariant-loop-answer : goal.invariant-loop-answer
invariant-loop-answer g l = ForEach (PassesFault g.B.Made.is_of) l.yielded l.all.items
