use Rattle.std.proofs.Common.{◌≡◌, ◌≤◌, ◌-◌, ◌++◌, [], List, drop, length, take}
use Rattle.mvd_keys.specs.Writes.{Key}
use Rattle.mvd_host.specs.Feeds.{page_of}
use Rattle.mvd_host.specs.Gathered.{Met}
use Rattle.mvd_host.proofs.feed.Feed.page_end.Given as goal

abbrev pub invariant-rounds : goal.invariant-rounds
invariant-rounds l = record {
  from : l.place ≤ l.end;
  within : l.end ≤ length l.self.rounds;
  page : (met : List Key) × Met l.met met × (page_of l.prefix [] (drop l.place l.self.rounds) ≡ take (l.end - l.place) (drop l.place l.self.rounds) ++ page_of l.prefix met (drop l.end l.self.rounds));
}

abbrev pub decreases-rounds : goal.decreases-rounds
decreases-rounds l = length l.self.rounds - l.end
