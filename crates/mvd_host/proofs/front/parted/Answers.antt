use Rattle.std.proofs.Common.{◌≡◌, ◌∙◌, ◌∷◌, ◌++◌, [], List, ap, arith, length, length-append, rules, subst, sym}
use Rattle.std.proofs.lemmas.List.{map-id}
use Rattle.std.proofs.lemmas.Iterator.Adapters.{YieldsList-from_vec}
use Rattle.std.proofs.lemmas.Iterator.Consumers.{YieldsList-end, YieldsList-turn}
use Rattle.mvd_host.specs.AtHand.{AllMayWait}
use Rattle.mvd_host.specs.Course.{own}
use Rattle.mvd_host.specs.Fronts.{waiting_in}
use Rattle.mvd_host.specs.declared.front.Asking.{Asking}
use Rattle.mvd_host.proofs.Fronts.{PartedSoFar, apart_of, parted_last, parted_may, parted_other, parted_own}
use Rattle.mvd_host.proofs.Orders.{ok_is}
use Rattle.mvd_host.proofs.front.parted.Goals as goal

pub push_reserved-requires : goal.push_reserved-requires
push_reserved-requires c =
    let road = YieldsList-from_vec {s = c.into_iter-one-iterator.result} c.args.asking.items (search rules) (search rules) in
    let turn = YieldsList-turn road c.loop-one.yielded c.loop-one.one-iterator c.loop-one.yielded_by c.next.result c.next.new.self c.in-Some.one c.in-Some.is c.next.ensures.steps in
    let at = c.loop-one.invariant in
    omega (arith, turn.0, at.count, at.last)

pub loop-one-preserved-then-one-client : goal.loop-one-preserved-then-one-client
loop-one-preserved-then-one-client c =
    let at = c.loop-one.invariant in
    let one = c.in-Some.one in
    record {
      parted = subst (λ (l : List Asking). PartedSoFar c.args.client (c.loop-one.yielded ++ one ∷ []) c.loop-one.others.items l) (sym c.push_reserved.ensures.items)
          (parted_last c.args.client c.loop-one.yielded c.loop-one.others.items c.loop-one.last.items one at.parted c.if-one-client.true);
      count = let more = length-append c.loop-one.yielded (one ∷ []) in omega (arith, more, at.count, c.push_reserved.ensures.len);
      others = at.others;
      last = omega (arith, at.last, c.push_reserved.ensures.capacity);
    }

pub loop-one-preserved : goal.loop-one-preserved
loop-one-preserved c =
    let at = c.loop-one.invariant in
    let one = c.in-Some.one in
    record {
      parted = subst (λ (l : List Asking). PartedSoFar c.args.client (c.loop-one.yielded ++ one ∷ []) l c.loop-one.last.items) (sym c.push_reserved-else-one-client.ensures.items)
          (parted_other c.args.client c.loop-one.yielded c.loop-one.others.items c.loop-one.last.items one at.parted (apart_of one.client c.args.client c.if-one-client.false));
      count = let more = length-append c.loop-one.yielded (one ∷ []) in omega (arith, more, at.count, c.push_reserved-else-one-client.ensures.len);
      others = omega (arith, at.others, c.push_reserved-else-one-client.ensures.capacity);
      last = at.last;
    }

pub returns-clause-own : goal.returns-clause-own
returns-clause-own c n =
    let road = YieldsList-from_vec {s = c.into_iter-one-iterator.result} c.args.asking.items (search rules) (search rules) in
    let end = YieldsList-end road c.loop-one.yielded c.loop-one.one-iterator c.loop-one.yielded_by c.next.result c.next.new.self c.in-None.is c.next.ensures.steps in
    let all : c.loop-one.yielded ≡ c.args.asking.items = sym (map-id c.loop-one.yielded) ∙ end.0 in
    let at = c.loop-one.invariant in
    let count = ap length all in
    let joined = c.append.ensures.items ∙ ok_is _ _ _ (c.append.ensures.succeeds (omega (arith, count, at.count, at.others))) in
    ap (λ (l : List Asking). own n (waiting_in l)) joined ∙ parted_own c.args.client c.loop-one.yielded c.loop-one.others.items c.loop-one.last.items at.parted n ∙ ap (λ (l : List Asking). own n (waiting_in l)) all

pub returns-clause-may : goal.returns-clause-may
returns-clause-may c may =
    let road = YieldsList-from_vec {s = c.into_iter-one-iterator.result} c.args.asking.items (search rules) (search rules) in
    let end = YieldsList-end road c.loop-one.yielded c.loop-one.one-iterator c.loop-one.yielded_by c.next.result c.next.new.self c.in-None.is c.next.ensures.steps in
    let all : c.loop-one.yielded ≡ c.args.asking.items = sym (map-id c.loop-one.yielded) ∙ end.0 in
    let at = c.loop-one.invariant in
    let count = ap length all in
    let joined = c.append.ensures.items ∙ ok_is _ _ _ (c.append.ensures.succeeds (omega (arith, count, at.count, at.others))) in
    subst (λ (l : List Asking). AllMayWait (waiting_in l)) (sym joined)
    (parted_may c.args.client c.loop-one.yielded c.loop-one.others.items c.loop-one.last.items at.parted (subst (λ (l : List Asking). AllMayWait (waiting_in l)) (sym all) may))
