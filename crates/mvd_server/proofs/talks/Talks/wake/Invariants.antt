use Rattle.std.proofs.Common.{◌≡◌}
use Rattle.mvd_replica.specs.Replicas.{site_of}
use Rattle.mvd_server.specs.News.{HasNews}
use Rattle.mvd_server.specs.Talking.{TalksAt, talking_of}
use Rattle.mvd_server.proofs.talks.Talks.wake.Given as goal

abbrev pub invariant-loop : goal.invariant-loop
invariant-loop g l = record {
  deeds : TalksAt (site_of l.replica) l.initial.self l.self;
  feed : (talking_of l.self).feed ≡ (talking_of l.initial.self).feed;
  news : HasNews (talking_of l.self).feed (site_of l.replica).states l.news;
}
