use Rattle.std.proofs.Common.{◌≡◌, ◌≤◌, ◌<◌, ◌-◌, ◌∙◌, [], ap, arith, drop, filter, get_or, length, refl, subst, take}
use Rattle.std.proofs.lemmas.List.{drop_all}
use Rattle.mvd_host.specs.Feeds.{FeedValue, NotedValue, begins_with, met_all, page_of, told_most}
use Rattle.mvd_host.specs.Gathered.{Met}
use Rattle.mvd_host.proofs.Feeding.{met_count, page_done, page_full, page_on}
use Rattle.mvd_host.proofs.feed.Feed.page_end.Goals as goal
use Rattle.mvd_host.proofs.feed.Feed.page_end.Goals.{then-rounds-test+else-len-lt-TOLD_MAX, else-rounds-test}

pub rounds-preserved : goal.rounds-preserved
rounds-preserved c =
    let rounds = c.args.self.now.rounds in
    let prefix = c.args.prefix.now in
    let i = c.rounds.end in
    let noted = c.index.result.now in
    let (met, m, so_far) = c.rounds.invariant.page in
    let at : noted ≡ get_or rounds i noted = c.index.ensures ∙ ap (λ (f : FeedValue). get_or f.rounds i noted) c.self.view_is in
    let keys : c.deref.result.now ≡ noted.keys = c.deref.ensures.value ∙ ap (λ (n : NotedValue). n.keys) c.behind-self.view_is in
    let count = met_count c.rounds.met met m in
    let size : length c.self.inside.rounds.items ≡ length rounds = ap (λ (f : FeedValue). length f.rounds) c.self.view_is in
    let most : told_most ≡ 1000 = refl in
    let few : length met < told_most = omega (arith, count, most) in
    record {
      from = omega arith;
      within = omega (arith, size);
      page = (
        met_all met (filter (begins_with prefix) noted.keys),
        subst (λ ks. Met c.meet_all.new.self (met_all met (filter (begins_with prefix) ks))) keys (c.in_ok-meet_all.ensures met m),
        page_on prefix _ rounds c.args.place i noted met c.rounds.invariant.from (omega (arith, size)) at few so_far,
      );
    }

pub returns-clause-page : goal.returns-clause-page
returns-clause-page c =
    let rounds = c.args.self.now.rounds in
    let prefix = c.args.prefix.now in
    let place = c.args.place in
    let end = c.rounds.end in
    let (met, m, so_far) = c.rounds.invariant.page in
    let count = met_count c.rounds.met met m in
    let size : length c.self.inside.rounds.items ≡ length rounds = ap (λ (f : FeedValue). length f.rounds) c.self.view_is in
    let most : told_most ≡ 1000 = refl in
    elim c.rounds-test.branch [
      | then-rounds-test+else-len-lt-TOLD_MAX w ↦
          let many : told_most ≤ length met = omega (arith, count, most, w.if-len-lt-TOLD_MAX.false) in page_full prefix (page_of prefix [] (drop place rounds)) (take (end - place) (drop place rounds)) (drop end rounds) met many so_far
      | else-rounds-test w ↦
          page_done prefix (page_of prefix [] (drop place rounds)) (take (end - place) (drop place rounds)) (drop end rounds) met (drop_all end rounds (omega (arith, size, w.rounds-test.false))) so_far
    ]
