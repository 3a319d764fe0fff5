use Rattle.std.proofs.Common.{length}
use Rattle.mvd_host.proofs.Fronts.{TakesSoFar}
use Rattle.mvd_host.proofs.front.Front.take.Given as goal

-- those so far were taken
abbrev pub invariant-taking : goal.invariant-taking
invariant-taking l = TakesSoFar l.site.states l.initial.asking l.asking l.initial.self l.self

abbrev pub decreases-taking : goal.decreases-taking
decreases-taking l = length l.asking.requests.items
