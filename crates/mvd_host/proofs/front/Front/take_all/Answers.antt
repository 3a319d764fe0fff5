use Rattle.std.proofs.Common.{◌∙◌, ◌∷◌, ◌++◌, [], ℕ, List, ap, append-nil, arith, length, length-append, rules, subst₂, sym}
use Rattle.std.proofs.lemmas.Iterator.Adapters.{YieldsList-from_vec}
use Rattle.std.proofs.lemmas.Iterator.Consumers.{YieldsList-turn}
use Rattle.mvd_wire.specs.declared.request.Request.{Request}
use Rattle.mvd_host.specs.AtHand.{asks_of}
use Rattle.mvd_host.specs.Fronts.{Parts, waiting_in}
use Rattle.mvd_host.proofs.Fronts.{empty_items, may_in, waiting_push}
use Rattle.mvd_host.proofs.front.Front.take_all.Goals as goal

pub loop-one-preserved-then-not-is_empty : goal.loop-one-preserved-then-not-is_empty
loop-one-preserved-then-not-is_empty c =
    let road = YieldsList-from_vec {s = c.into_iter-one-iterator.result} c.args.asking.items (search rules) (search rules) in
    let turn = YieldsList-turn road c.loop-one.yielded c.loop-one.one-iterator c.loop-one.yielded_by c.next.result c.next.new.self c.in-Some.one c.in-Some.is c.next.ensures.steps in
    let at = c.loop-one.invariant in
    let one = c.in-Some.one in
    let may = may_in c.args.asking.items (length c.loop-one.yielded) one turn.0 turn.1 c.requires.may in
    record {
      parts = λ done before.
          subst₂ (λ (a w : List (ℕ × Request)). Parts c.args.site.now.states done a w c.take.new.self) (sym (waiting_push c.loop-one.yielded one)) (sym (ap waiting_in c.push_reserved.ensures.items ∙ waiting_push c.loop-one.rest.items c.take.new.asking))
          (c.take.ensures.parts done (waiting_in c.loop-one.yielded) (waiting_in c.loop-one.rest.items) may (at.parts done before));
      few = let more = length-append c.loop-one.yielded (one ∷ []) in omega (arith, more, at.few, c.push_reserved.ensures.len);
      room = omega (arith, at.room, c.push_reserved.ensures.capacity);
    }

pub loop-one-preserved : goal.loop-one-preserved
loop-one-preserved c =
    let road = YieldsList-from_vec {s = c.into_iter-one-iterator.result} c.args.asking.items (search rules) (search rules) in
    let turn = YieldsList-turn road c.loop-one.yielded c.loop-one.one-iterator c.loop-one.yielded_by c.next.result c.next.new.self c.in-Some.one c.in-Some.is c.next.ensures.steps in
    let at = c.loop-one.invariant in
    let one = c.in-Some.one in
    let may = may_in c.args.asking.items (length c.loop-one.yielded) one turn.0 turn.1 c.requires.may in
    let left = c.take.new.asking in
    let none = empty_items left.requests.len left.requests.items left.requests.ok.0 (sym c.is_empty.ensures ∙ c.if-not-is_empty.false) in
    let same = ap (λ (l : List Request). waiting_in c.loop-one.rest.items ++ asks_of left.client l) none ∙ append-nil (waiting_in c.loop-one.rest.items) in
    record {
      parts = λ done before.
          subst₂ (λ (a w : List (ℕ × Request)). Parts c.args.site.now.states done a w c.take.new.self) (sym (waiting_push c.loop-one.yielded one)) same
          (c.take.ensures.parts done (waiting_in c.loop-one.yielded) (waiting_in c.loop-one.rest.items) may (at.parts done before));
      few = let more = length-append c.loop-one.yielded (one ∷ []) in omega (arith, more, at.few);
      room = at.room;
    }
