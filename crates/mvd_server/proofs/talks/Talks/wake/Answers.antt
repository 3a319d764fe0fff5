use Rattle.std.proofs.Common.{subst, sym, ◌∙◌}
use Rattle.mvd_host.specs.Feeds.{FeedValue}
use Rattle.mvd_replica.specs.Replicas.{site_of}
use Rattle.mvd_server.specs.News.{HasNews}
use Rattle.mvd_server.specs.Talking.{DeedsAt, Talking, talking_of}
use Rattle.mvd_server.proofs.Deeds.{deeds_at}
use Rattle.mvd_server.proofs.talks.Talks.wake.Goals as goal

pub loop-preserved : goal.loop-preserved
loop-preserved g c =
    let site = site_of c.args.replica.now in
    let was = c.loop.invariant in
    record {
      deeds = deeds_at site (talking_of c.args.self.now) (talking_of c.loop.self) (talking_of c.wake_one.new.self) was.deeds (c.wake_one.ensures.deeds was.news);
      feed = c.wake_one.ensures.feed ∙ was.feed;
      news = subst (λ (f : FeedValue). HasNews f site.states c.wake_one.new.news) (sym c.wake_one.ensures.feed) (c.wake_one.ensures.news was.news);
    }

pub returns : goal.returns
returns g c = subst (λ (t : Talking). DeedsAt (site_of c.args.replica.now) (talking_of c.args.self.now) t) (sym c.follow.ensures) c.loop.invariant.deeds
