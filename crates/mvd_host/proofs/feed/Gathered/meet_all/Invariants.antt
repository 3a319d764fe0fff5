use Rattle.std.proofs.Common.{List, filter, take}
use Rattle.mvd_keys.specs.Writes.{Key}
use Rattle.mvd_host.specs.Feeds.{begins_with, met_all}
use Rattle.mvd_host.specs.Gathered.{Met}
use Rattle.mvd_host.proofs.feed.Gathered.meet_all.Given as goal

abbrev pub invariant-loop-key : goal.invariant-loop-key
invariant-loop-key l = (met : List Key) → Met l.fn.self met → Met l.self (met_all met (filter (begins_with l.prefix) (take l.key-index l.keys)))
