use Rattle.std.proofs.Common.{◌≡◌, ◌⊎◌, ◌*◌, ◌∙◌, ◌+◌, ◌++◌, ◌∷◌, [], ap, refl, sym, subst, drop, length, append-nil, append_assoc, arith, rules, length-append, inr, true}
use Rattle.std.proofs.lemmas.List.{map-id}
use Rattle.std.proofs.lemmas.Iterator.Adapters.{YieldsList-from_vec}
use Rattle.std.proofs.lemmas.Iterator.Consumers.{YieldsList-end, YieldsList-turn}
use Rattle.mvd_rows.specs.Changes.{looks_each, updates_each}
use Rattle.mvd_kept.specs.Installs.{MayAllBeIn, PutsAll, changes_in, moved_in}
use Rattle.mvd_kept.specs.Sites.{SiteValue}
use Rattle.mvd_kept.proofs.Installed.{broken_stays, digested_more, may_after, may_first, puts_more, states_end, was_whole}
use Rattle.mvd_kept.proofs.InstallSpent.{PartCosts, costs_more}
use Rattle.mvd_kept.proofs.Spent.{free}
use Rattle.mvd_kept.proofs.installing.put_all.Goals as goal

pub loop-prepared-init : goal.loop-prepared-init
loop-prepared-init c = record {
  puts = ([], sym (append-nil _), refl);
  fresh = c.requires.fresh;
  count = omega arith;
  space = refl;
  few = c.requires.few;
  stand = c.requires.stand;
  digested = λ _. inr refl;
  costs = free 0 (0 * looks_each c.args.config.now.defs) (0 * updates_each c.args.config.now.defs + 0) 0 0 c.args.work.now;
  idle = λ _. refl;
}

pub put_one-reply-requires-clause-fresh : goal.put_one-reply-requires-clause-fresh
put_one-reply-requires-clause-fresh c whole =
    let group = c.args.group.items in
    let road = YieldsList-from_vec {s = c.into_iter-prepared-iterator.result} group (search rules) (search rules) in
    let turn = YieldsList-turn road c.loop-prepared.yielded c.loop-prepared.prepared-iterator c.loop-prepared.yielded_by c.next.result c.next.new.self c.in-Some.prepared c.in-Some.is c.next.ensures.steps in
    (may_first _ group (length c.loop-prepared.yielded) c.in-Some.prepared turn.0 turn.1 (c.loop-prepared.invariant.fresh whole)).0

pub push_reserved-requires : goal.push_reserved-requires
push_reserved-requires c =
    let road = YieldsList-from_vec {s = c.into_iter-prepared-iterator.result} c.args.group.items (search rules) (search rules) in
    let turn = YieldsList-turn road c.loop-prepared.yielded c.loop-prepared.prepared-iterator c.loop-prepared.yielded_by c.next.result c.next.new.self c.in-Some.prepared c.in-Some.is c.next.ensures.steps in
    omega (arith, turn.0, c.requires.space, c.loop-prepared.invariant.count, c.loop-prepared.invariant.space, c.loop-prepared.replies.ok.0)

pub loop-prepared-preserved : goal.loop-prepared-preserved
loop-prepared-preserved c =
    let group = c.args.group.items in
    let road = YieldsList-from_vec {s = c.into_iter-prepared-iterator.result} group (search rules) (search rules) in
    let turn = YieldsList-turn road c.loop-prepared.yielded c.loop-prepared.prepared-iterator c.loop-prepared.yielded_by c.next.result c.next.new.self c.in-Some.prepared c.in-Some.is c.next.ensures.steps in
    let config = c.args.config.now in
    let at = c.loop-prepared.invariant in
    let told = at.puts.0 in
    let yielded = c.loop-prepared.yielded in
    let reply = c.put_one-reply.result in
    let first : SiteValue = record { config = config; states = c.args.states.now; broken = c.args.was_broken } in
    let old : SiteValue = record { config = config; states = c.loop-prepared.states; broken = c.loop-prepared.broken } in
    let new : SiteValue = record { config = config; states = c.put_one-reply.new.states; broken = c.put_one-reply.new.broken } in
    let puts = c.put_one-reply.ensures.puts in
    record {
      puts = (
        told ++ reply ∷ [],
        c.push_reserved.ensures.items ∙ ap (λ l. l ++ reply ∷ []) at.puts.1 ∙ append_assoc _ told (reply ∷ []),
        puts_more yielded told c.in-Some.prepared reply first old new at.puts.2 puts,
      );
      fresh = λ whole. subst (λ k. MayAllBeIn new (drop k group)) (sym (length-append yielded (c.in-Some.prepared ∷ [])))
          (may_after old new c.in-Some.prepared reply (drop (length yielded + 1) group) puts
          (λ was. may_first old group (length yielded) c.in-Some.prepared turn.0 turn.1 (at.fresh was)) whole);
      count = grind (arith, length-append, c.push_reserved.ensures.items, at.count);
      space = c.push_reserved.ensures.capacity ∙ at.space;
      few = c.put_one-reply.ensures.few;
      stand = c.put_one-reply.ensures.stand;
      digested = λ whole. digested_more yielded c.in-Some.prepared c.args.is_digested (at.digested (was_whole old new c.in-Some.prepared reply old.broken refl puts whole)) (c.put_one-reply.ensures.digested whole);
      costs = costs_more config.defs c.args.states.now c.loop-prepared.states yielded c.in-Some.prepared c.args.work.now c.loop-prepared.work c.put_one-reply.new.work c.loop-prepared.broken
          (λ whole. states_end yielded told first old at.puts.2 whole) at.costs c.put_one-reply.ensures.costs c.put_one-reply.ensures.idle;
      idle = λ was. c.put_one-reply.ensures.idle (ap (λ (s : SiteValue). s.broken) (broken_stays yielded told first old was at.puts.2) ∙ was) ∙ at.idle was;
    }

pub returns : goal.returns
returns c =
    let road = YieldsList-from_vec {s = c.into_iter-prepared-iterator.result} c.args.group.items (search rules) (search rules) in
    let end = YieldsList-end road c.loop-prepared.yielded c.loop-prepared.prepared-iterator c.loop-prepared.yielded_by c.next.result c.next.new.self c.in-None.is c.next.ensures.steps in
    let all : c.loop-prepared.yielded ≡ c.args.group.items = sym (map-id c.loop-prepared.yielded) ∙ end.0 in
    let at = c.loop-prepared.invariant in
    let first : SiteValue = record { config = c.args.config.now; states = c.args.states.now; broken = c.args.was_broken } in
    let last : SiteValue = record { config = c.args.config.now; states = c.loop-prepared.states; broken = c.loop-prepared.broken } in
    record {
      puts = (at.puts.0, at.puts.1, subst (λ l. PutsAll first last l at.puts.0) all at.puts.2);
      space = at.space;
      few = at.few;
      stand = at.stand;
      digested = λ whole. subst (λ l. (c.args.is_digested ≡ true) ⊎ (changes_in l ≡ 0)) all (at.digested whole);
      costs = subst (λ l. PartCosts c.args.config.now.defs (changes_in l) (moved_in c.args.states.now l) c.args.work.now c.loop-prepared.work) all at.costs;
      idle = at.idle;
    }
