use Rattle.std.proofs.Common.{◌≡◌, ◌≤◌, drop, length, map, reverse}
use Rattle.std.specs.Borrow.{Bor}
use Rattle.mvd_keys.specs.Writes.{Key}
use Rattle.mvd_host.proofs.feed.Gathered.in_order.Given as goal

abbrev pub invariant-copying : goal.invariant-copying
invariant-copying l = (l.left ≤ length l.self.found.items) × (l.keys.items ≡ reverse (drop l.left (map (λ (k : Bor Key). k.now) l.self.found.items)))

abbrev pub decreases-copying : goal.decreases-copying
decreases-copying l = l.left
