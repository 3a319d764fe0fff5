use Rattle.std.proofs.Common.{◌<◌, ◌≡◌, Some, ap, ◌∙◌, length, arith, refl, deque_len, get_or, ◌-◌, subst}
use Rattle.mvd_host.specs.Feeds.{FeedValue, NotedValue, root_now}
use Rattle.mvd_host.proofs.Feeding.{root_at_start, root_told}
use Rattle.mvd_host.proofs.Listing.{if_root_is}
use Rattle.mvd_host.proofs.feed.Feed.root.Goals as goal

pub returns-in-Some-clause-last : goal.returns-in-Some-clause-last
returns-in-Some-clause-last c =
    let rounds = c.self.inside.rounds.items in
    let last = c.in-Some.noted.now in
    let ok : c.self.inside.rounds.len ≡ length rounds = c.self.inside.rounds.ok.0 in
    let some : 0 < deque_len c.self.inside.rounds = c.in-Some.ensures.variant.0 refl in
    ap (λ (m : NotedValue). Some m.root) c.noted.view_is
    ∙ root_told c.self.inside.start rounds last c.self.invariant.none (omega (arith, ok, some)) (subst (λ n. last ≡ get_or rounds (n - 1) last) ok c.in-Some.ensures.lookup)
    ∙ ap (λ (f : FeedValue). root_now f) c.self.view_is

pub returns-in-Some-clause-now : goal.returns-in-Some-clause-now
returns-in-Some-clause-now c past now lists = if_root_is c.args.self.now past now lists (Some c.noted.inside.root) (returns-in-Some-clause-last c)

pub returns-in-None-clause-last : goal.returns-in-None-clause-last
returns-in-None-clause-last c =
    let rounds = c.self.inside.rounds.items in
    let ok : c.self.inside.rounds.len ≡ length rounds = c.self.inside.rounds.ok.0 in
    root_at_start c.self.inside.start rounds (λ some. c.in-None.ensures.variant.1 (omega (arith, ok, some)))
    ∙ ap (λ (f : FeedValue). root_now f) c.self.view_is

pub returns-in-None-clause-now : goal.returns-in-None-clause-now
returns-in-None-clause-now c past now lists = if_root_is c.args.self.now past now lists c.self.inside.start (returns-in-None-clause-last c)
