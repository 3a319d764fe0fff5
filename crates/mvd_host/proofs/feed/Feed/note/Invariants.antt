use Rattle.std.proofs.Common.{◌≡◌, length, option_map, Some}
use Rattle.mvd_host.specs.Feeds.{fitted, keys_in, noted_in}
use Rattle.mvd_host.proofs.feed.Feed.note.Given as goal

abbrev pub invariant-fitting : goal.invariant-fitting
invariant-fitting l = (l.self-inside.count ≡ length (keys_in l.self-inside.rounds.items))
    × (option_map (λ start. fitted start l.self-inside.rounds.items) l.self-inside.start ≡ Some (noted_in l.fn.self l.fn.keys.items l.fn.root))

abbrev pub decreases-fitting : goal.decreases-fitting
decreases-fitting l = length l.self-inside.rounds.items
