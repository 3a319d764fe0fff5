use Rattle.std.proofs.Common.{◌∙◌, Some, ap, option_map, subst, sym}
use Rattle.mvd_host.specs.Feeds.{page_told}
use Rattle.mvd_host.specs.Lists.{IsListed}
use Rattle.mvd_host.proofs.Listing.{told_listed}
use Rattle.mvd_host.proofs.feed.Feed.since.Goals as goal

pub returns-clause-listed : goal.returns-clause-listed
returns-clause-listed c past now lists =
    let prefix = c.args.prefix.now in
    let root = c.args.root.now in
    subst (λ o. IsListed prefix root past o) (ap (option_map (page_told prefix root)) c.in-Some.ensures.place ∙ ap (λ t. Some t) (sym c.in_ok-changed.ensures.told)) (told_listed c.args.self.now past now prefix root lists)
