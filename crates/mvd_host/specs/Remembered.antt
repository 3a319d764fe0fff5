-- What is true of what a feed keeps.
use Rattle.std.specs.Prelude.{◌≡◌, ◌≤◌, [], length, None}
use Rattle.mvd_host.specs.declared.feed.Feed.TheInside.{Inside}
use Rattle.mvd_host.specs.Feeds.{keys_in, keys_most, rounds_most}

pub record Remembers (feed : Inside) : Type 0 where
  pub count : feed.count ≡ length (keys_in feed.rounds.items)
  pub few_rounds : length feed.rounds.items ≤ rounds_most
  pub few_keys : feed.count ≤ keys_most
  pub none : feed.start ≡ None → feed.rounds.items ≡ []
