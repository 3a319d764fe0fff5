use Rattle.std.proofs.Common.{◌∙◌, ◌+◌, ◌++◌, ◌∷◌, ◌<◌, [], ap, ap₂, sym, subst, subst₂, take, arith, length, length-append}
use Rattle.std.proofs.lemmas.List.{take_more}
use Rattle.mvd_site.specs.Installs.{changes_in}
use Rattle.mvd_replica.specs.Adding.{CountsKeys}
use Rattle.mvd_replica.specs.Behind.{AreLast, JoinsGroup, noted_at}
use Rattle.mvd_replica.specs.Groups.{IsBounded, MustWait, StandTogether, state_bytes_in}
use Rattle.mvd_replica.proofs.AddedKeys.{counts_none}
use Rattle.mvd_replica.proofs.SameKey.{last_more, last_none, none_joined, noted_asked, of_joined}
use Rattle.mvd_replica.proofs.Grouping.{bounded_more, bounded_none, bytes_more, changes_more, next_waits, together_more, together_none}
use Rattle.mvd_replica.proofs.groups.prepare_all.Goals as goal

pub loop-request-init : goal.loop-request-init
loop-request-init c = record {
  count = ap length c.in_ok-group.ensures.items;
  bytes = sym (ap state_bytes_in c.in_ok-group.ensures.items);
  bounded = subst IsBounded (sym c.in_ok-group.ensures.items) bounded_none;
  changes = sym (ap changes_in c.in_ok-group.ensures.items);
  room = omega (arith, c.in_ok-group.ensures.capacity, c.min.ensures);
  few = omega arith;
  keys = subst (λ l. CountsKeys c.args.site.now l 0) (sym c.in_ok-group.ensures.items) (counts_none c.args.site.now);
  noted = λ _. subst₂ AreLast (sym c.in_ok-group.ensures.items) (sym c.new-waiting.ensures) last_none;
  together = λ whole. subst (StandTogether c.args.site.now []) (sym c.in_ok-group.ensures.items) (together_none c.args.site.now);
}

pub join-requires-clause-keys : goal.join-requires-clause-keys
join-requires-clause-keys c = subst (λ l. CountsKeys c.args.site.now l c.loop-request.added) (sym c.deref.ensures.value) c.loop-request.invariant.keys

pub join-requires-clause-bytes : goal.join-requires-clause-bytes
join-requires-clause-bytes c = c.loop-request.invariant.bytes ∙ ap state_bytes_in (sym c.deref.ensures.value)

pub overflow_add-bytes : goal.overflow_add-bytes
overflow_add-bytes c =
    let light = of_joined (λ _ _. c.loop-request.bytes < 4194304) c.in_ok-joined.joined c.in-Some.prepared c.in-Some.adds c.in-Some.is c.in_ok-joined.ensures.light in
    omega (arith, light, c.bytes_of-bytes.ensures.few)

pub overflow_add-added : goal.overflow_add-added
overflow_add-added c =
    let short = of_joined (λ _ _. length c.deref.result.now < 1024) c.in_ok-joined.joined c.in-Some.prepared c.in-Some.adds c.in-Some.is c.in_ok-joined.ensures.short in
    let same = ap length c.deref.ensures.value in
    let joins = of_joined (JoinsGroup c.args.site.now c.deref.result.now c.loop-request.added c.request-item.result) c.in_ok-joined.joined c.in-Some.prepared c.in-Some.adds c.in-Some.is c.in_ok-joined.ensures.joins in
    omega (arith, short, same, c.loop-request.invariant.keys.few, joins.few)

pub overflow_add-changes : goal.overflow_add-changes
overflow_add-changes c =
    let short = of_joined (λ _ _. length c.deref.result.now < 1024) c.in_ok-joined.joined c.in-Some.prepared c.in-Some.adds c.in-Some.is c.in_ok-joined.ensures.short in
    let same = ap length c.deref.ensures.value in
    omega (arith, short, same, c.loop-request.invariant.few, c.changes_of-changes.ensures.few)

pub push_reserved-requires : goal.push_reserved-requires
push_reserved-requires c =
    let short = of_joined (λ _ _. length c.deref.result.now < 1024) c.in_ok-joined.joined c.in-Some.prepared c.in-Some.adds c.in-Some.is c.in_ok-joined.ensures.short in
    let same = ap length c.deref.ensures.value in
    omega (arith, short, same, c.loop-request.invariant.room, c.loop-request.invariant.count, c.loop-request-test.true)

pub loop-request-preserved : goal.loop-request-preserved
loop-request-preserved c =
    let site = c.args.site.now in
    let requests = c.args.requests.now in
    let i = c.loop-request.request-index in
    let group = c.loop-request.group.items in
    let request = c.request-item.result in
    let prepared = c.in-Some.prepared in
    let adds = c.in-Some.adds in
    let joins : JoinsGroup site group c.loop-request.added request prepared adds =
    subst (λ l. JoinsGroup site l c.loop-request.added request prepared adds) c.deref.ensures.value
    (of_joined (JoinsGroup site c.deref.result.now c.loop-request.added request) c.in_ok-joined.joined prepared adds c.in-Some.is c.in_ok-joined.ensures.joins) in
    let light = of_joined (λ _ _. c.loop-request.bytes < 4194304) c.in_ok-joined.joined prepared adds c.in-Some.is c.in_ok-joined.ensures.light in
    record {
      count = grind (arith, length-append, c.push_reserved.ensures.items, c.loop-request.invariant.count);
      bytes = ap₂ (λ a b. a + b) c.loop-request.invariant.bytes c.bytes_of-bytes.ensures.count ∙ sym (ap state_bytes_in c.push_reserved.ensures.items ∙ bytes_more group prepared);
      bounded = subst IsBounded (sym c.push_reserved.ensures.items) (bounded_more group prepared (subst (λ n. n < 4194304) c.loop-request.invariant.bytes light));
      changes = ap₂ (λ a b. a + b) c.loop-request.invariant.changes c.changes_of-changes.ensures.count ∙ sym (ap changes_in c.push_reserved.ensures.items ∙ changes_more group prepared);
      room = omega (arith, c.push_reserved.ensures.capacity, c.loop-request.invariant.room);
      few = grind (arith, length-append, c.push_reserved.ensures.items, c.loop-request.invariant.few, c.changes_of-changes.ensures.few);
      keys = subst (λ l. CountsKeys site l (c.loop-request.added + adds)) (sym c.push_reserved.ensures.items) joins.keys;
      noted = λ low.
          subst₂ AreLast (sym c.push_reserved.ensures.items) (sym (c.in_ok-note.ensures.noted (omega (arith, low, c.loop-request.invariant.count)) ∙ noted_asked c.loop-request.waiting c.len.result request prepared joins.asked))
          (subst (λ n. AreLast (group ++ prepared ∷ []) (noted_at c.loop-request.waiting n prepared)) (sym (c.len.ensures ∙ c.loop-request.group.ok.0)) (last_more group c.loop-request.waiting prepared (c.loop-request.invariant.noted c.loop-request-test.true)));
      together = λ whole.
          subst₂ (StandTogether site) (sym (take_more requests i request c.loop-request-test.true ∙ ap (λ r. take i requests ++ r ∷ []) (sym c.request-item.is))) (sym c.push_reserved.ensures.items)
          (together_more site (take i requests) group request prepared (c.loop-request.invariant.together whole) (joins.joins whole));
    }

pub returns-in_default-clause-ends : goal.returns-in_default-clause-ends
returns-in_default-clause-ends c =
    let site = c.args.site.now in
    next_waits site c.args.requests.now c.loop-request.group.items c.loop-request.request-index c.request-item.result c.loop-request.invariant.count c.loop-request-test.true c.request-item.is
    (subst (MustWait site c.request-item.result) c.deref.ensures.value (c.in_ok-joined.ensures.waits (none_joined c.in_ok-joined.joined c.in_default.not-Some)))
