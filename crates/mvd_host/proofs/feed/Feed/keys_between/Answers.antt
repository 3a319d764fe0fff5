use Rattle.std.proofs.Common.{◌≡◌, ◌+◌, ◌-◌, ◌++◌, ◌∙◌, List, ap, arith, drop, filter, get_or, subst, sym, take}
use Rattle.mvd_keys.specs.Writes.{Key}
use Rattle.mvd_host.specs.Feeds.{FeedValue, NotedValue, begins_with, keys_with}
use Rattle.mvd_host.specs.Gathered.{Gathers}
use Rattle.mvd_host.proofs.Feeding.{rounds_first}
use Rattle.mvd_host.proofs.feed.Feed.keys_between.Goals as goal

pub rounds-preserved : goal.rounds-preserved
rounds-preserved c =
    let rounds = c.args.self.now.rounds in
    let p = begins_with c.args.prefix.now in
    let i = c.rounds.left - 1 in
    let noted = c.index.result.now in
    let end = c.args.end in
    let next : c.rounds.left ≡ i + 1 = omega arith in
    let at : noted ≡ get_or rounds i noted = c.index.ensures ∙ ap (λ (f : FeedValue). get_or f.rounds i noted) c.self.view_is in
    let keys : c.deref.result.now ≡ noted.keys = c.deref.ensures.value ∙ ap (λ (m : NotedValue). m.keys) c.behind-self.view_is in
    let whole : keys_with c.args.prefix.now (take (end - i) (drop i rounds)) ≡ filter p c.deref.result.now ++ keys_with c.args.prefix.now (take (end - c.rounds.left) (drop c.rounds.left rounds)) =
    ap (keys_with c.args.prefix.now) (rounds_first rounds i end noted (omega arith) (omega (arith, c.requires)) at)
    ∙ ap (λ (l : List Key). filter p l ++ keys_with c.args.prefix.now (take (end - (i + 1)) (drop (i + 1) rounds))) (sym keys)
    ∙ ap (λ n. filter p c.deref.result.now ++ keys_with c.args.prefix.now (take (end - n) (drop n rounds))) (sym next) in (
      omega arith,
      omega arith,
      subst (λ l. Gathers c.add_all.new.self l) (sym whole) (c.in_ok-add_all.ensures (keys_with c.args.prefix.now (take (end - c.rounds.left) (drop c.rounds.left rounds))) c.rounds.invariant.2),
    )
