use Rattle.std.proofs.Common.{◌≡◌, ◌≤◌, None, drop, length}
use Rattle.mvd_host.specs.Feeds.{after_root}
use Rattle.mvd_host.proofs.feed.Feed.place_of.Given as goal

abbrev pub invariant-rounds : goal.invariant-rounds
invariant-rounds l = (l.left ≤ length l.self.rounds) × (after_root (drop l.left l.self.rounds) l.root ≡ None)

abbrev pub decreases-rounds : goal.decreases-rounds
decreases-rounds l = l.left
