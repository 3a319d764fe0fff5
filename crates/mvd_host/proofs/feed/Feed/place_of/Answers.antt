use Rattle.std.proofs.Common.{◌≡◌, ◌+◌, ◌-◌, ◌∙◌, ap, arith, get_or, sym, true}
use Rattle.std.specs.Option.{option_and_then}
use Rattle.mvd_host.specs.Feeds.{FeedValue, NotedValue, is_root, since_start}
use Rattle.mvd_host.proofs.Feeding.{since_found}
use Rattle.mvd_host.proofs.feed.Feed.place_of.Goals as goal

pub returns-then-eq-clause-place : goal.returns-then-eq-clause-place
returns-then-eq-clause-place c =
    let rounds = c.args.self.now.rounds in
    let root = c.args.root.now in
    let i = c.rounds.left - 1 in
    let noted = c.index.result.now in
    let at : noted ≡ get_or rounds i noted = c.index.ensures ∙ ap (λ (f : FeedValue). get_or f.rounds i noted) c.self.view_is in
    let same : is_root noted.root root ≡ true = sym (c.if-eq.ensures ∙ ap (λ (m : NotedValue). is_root m.root root) c.behind-self.view_is) in
    let next : c.rounds.left ≡ i + 1 = omega arith in
    let found = since_found c.in-Some.start rounds i c.rounds.left noted root next (omega arith) at same c.rounds.invariant.1 in
    ap (option_and_then (λ start. since_start start rounds root)) (ap (λ (f : FeedValue). f.start) (sym c.self.view_is) ∙ c.in-Some.is) ∙ found
