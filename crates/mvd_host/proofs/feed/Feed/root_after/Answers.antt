use Rattle.std.proofs.Common.{◌≡◌, ◌-◌, ◌∙◌, ap, arith, get_or, sym}
use Rattle.mvd_host.specs.Feeds.{FeedValue, NotedValue}
use Rattle.mvd_host.proofs.Feeding.{root_then}
use Rattle.mvd_host.proofs.feed.Feed.root_after.Goals as goal

pub returns : goal.returns
returns c =
    let rounds = c.args.self.now.rounds in
    let last = c.index.result.now in
    let at : last ≡ get_or rounds (c.args.end - 1) last = c.index.ensures ∙ ap (λ (f : FeedValue). get_or f.rounds (c.args.end - 1) last) c.self.view_is in
    ap (λ (m : NotedValue). m.root) c.behind-self.view_is
    ∙ sym (root_then c.args.root.now rounds c.args.place c.args.end last (omega (arith, c.requires, c.if-place-end.false)) c.requires.1 at)
