use Rattle.std.proofs.Common.{sym, subst}
use Rattle.mvd_host.specs.Feeds.{FeedValue}
use Rattle.mvd_host.specs.Lists.{ListsOn}
use Rattle.mvd_host.proofs.Changing.{root_is}
use Rattle.mvd_host.proofs.Listing.{lists_root, lists_still}
use Rattle.mvd_host.proofs.feed.Feed.start.Goals as goal

pub returns-then-is_some : goal.returns-then-is_some
returns-then-is_some g c = record { lists = lists_still c.args.self.now c.args.replica.now.site.states }

pub returns-in-Ok : goal.returns-in-Ok
returns-in-Ok g c =
    let states = c.args.replica.now.site.states in
    record { lists = subst (λ (f : FeedValue). ListsOn c.args.self.now states f states) (sym c.begin.ensures) (lists_root c.args.self.now c.in-Ok.root states states (root_is c.args.replica.now.site c.in-Ok.root c.in-Ok.ensures.0)) }
