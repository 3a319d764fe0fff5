use Rattle.std.proofs.Common.{◌≡◌, take, length}
use Rattle.mvd_kept.specs.Sites.{AnswersFromNothing}
use Rattle.mvd_kept.proofs.Runs.{HasChoice}
use Rattle.mvd_site.proofs.sites.Site.run.Given as goal

-- what has been answered so far
abbrev pub invariant-loop-request : goal.invariant-loop-request
invariant-loop-request l = record {
  answers : AnswersFromNothing l.config l.site (take l.request-index l.requests) l.replies.items;
  choice : HasChoice (take l.request-index l.requests) l.replies.items;
  config : l.site.config ≡ l.config;
  count : length l.replies.items ≡ l.request-index;
}
