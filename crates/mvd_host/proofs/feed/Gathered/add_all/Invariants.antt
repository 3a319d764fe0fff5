use Rattle.std.proofs.Common.{◌≤◌, ◌++◌, List, drop, filter, length}
use Rattle.mvd_keys.specs.Writes.{Key}
use Rattle.mvd_host.specs.Feeds.{begins_with}
use Rattle.mvd_host.specs.Gathered.{Gathers}
use Rattle.mvd_host.proofs.feed.Gathered.add_all.Given as goal

abbrev pub invariant-keys : goal.invariant-keys
invariant-keys l = (l.left ≤ length l.keys)
    × ((later : List Key) → Gathers l.fn.self later → Gathers l.self (filter (begins_with l.prefix) (drop l.left l.keys) ++ later))

abbrev pub decreases-keys : goal.decreases-keys
decreases-keys l = l.left
