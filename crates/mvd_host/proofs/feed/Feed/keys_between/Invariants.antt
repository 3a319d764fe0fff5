use Rattle.std.proofs.Common.{◌≤◌, ◌-◌, drop, take}
use Rattle.mvd_host.specs.Feeds.{keys_with}
use Rattle.mvd_host.specs.Gathered.{Gathers}
use Rattle.mvd_host.proofs.feed.Feed.keys_between.Given as goal

abbrev pub invariant-rounds : goal.invariant-rounds
invariant-rounds l = (l.place ≤ l.left) × (l.left ≤ l.end) × Gathers l.lasts (keys_with l.prefix (take (l.end - l.left) (drop l.left l.self.rounds)))

abbrev pub decreases-rounds : goal.decreases-rounds
decreases-rounds l = l.left
