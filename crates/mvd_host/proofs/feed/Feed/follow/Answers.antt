use Rattle.std.proofs.Common.{◌∙◌, List, ap, inl, inr, subst, sym}
use Rattle.mvd_keys.specs.Writes.{Key}
use Rattle.mvd_host.specs.Feeds.{FeedValue, knows_root}
use Rattle.mvd_host.specs.Lists.{ChangesAmong, ListsOn}
use Rattle.mvd_host.proofs.Changing.{root_is}
use Rattle.mvd_host.proofs.Listing.{lists_root}
use Rattle.mvd_host.proofs.Remembering.{noted_notes}
use Rattle.mvd_host.proofs.feed.Feed.follow.Goals as goal

pub returns-in-Ok-changed_keys-clause-notes : goal.returns-in-Ok-changed_keys-clause-notes
returns-in-Ok-changed_keys-clause-notes g c =
    let states = c.args.replica.now.site.states in
    noted_notes c.args.requests.items states c.args.self.now c.note.new.self c.in-Ok-changed_keys.keys.items c.in-Ok.root c.note.result c.in-Ok-changed_keys.ensures (root_is c.args.replica.now.site c.in-Ok.root c.in-Ok.ensures.0) c.note.ensures.ok c.note.ensures.err

pub returns-in-Ok-changed_keys-clause-lists : goal.returns-in-Ok-changed_keys-clause-lists
returns-in-Ok-changed_keys-clause-lists g c before changes =
    let states = c.args.replica.now.site.states in
    c.note.ensures.lists before states (subst (λ (keys : List Key). ChangesAmong keys before states) (sym c.in-Ok-changed_keys.ensures) changes) (root_is c.args.replica.now.site c.in-Ok.root c.in-Ok.ensures.0)

pub returns-in-Err-clause-notes : goal.returns-in-Err-clause-notes
returns-in-Err-clause-notes g c = inr (inl (c.begin.ensures ∙ ap knows_root (root_is c.args.replica.now.site c.in-Ok.root c.in-Ok.ensures.0)))

pub returns-in-Err-clause-lists : goal.returns-in-Err-clause-lists
returns-in-Err-clause-lists g c before changes =
    let states = c.args.replica.now.site.states in
    subst (λ (f : FeedValue). ListsOn c.args.self.now before f states) (sym c.begin.ensures) (lists_root c.args.self.now c.in-Ok.root before states (root_is c.args.replica.now.site c.in-Ok.root c.in-Ok.ensures.0))
