use Rattle.std.proofs.Common.{◌≡◌, ◌≤◌, length}
use Rattle.mvd_meet.specs.Posts.{due_of}
use Rattle.mvd_meet.proofs.post.Post.take.Given as goal

-- frames were taken
abbrev pub invariant-taking : goal.invariant-taking
invariant-taking l = record {
  leaving : l.self.leaving ≡ l.initial.self.leaving;
  came : l.self.came ≡ l.initial.self.came;
  waits : length l.self.waits ≤ length l.initial.self.waits;
  asked : l.self.asked ≡ l.initial.self.asked;
}

abbrev pub decreases-taking : goal.decreases-taking
decreases-taking l = due_of l.self
