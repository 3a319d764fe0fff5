use Rattle.std.proofs.Common.{◌≡◌, ◌∙◌, refl, sym, subst, take, zip, length, arith, rules, length-append}
use Rattle.std.proofs.lemmas.List.{length-take-le, map-id, take_all}
use Rattle.std.proofs.lemmas.Iterator.Adapters.{YieldsList-from_vec}
use Rattle.std.proofs.lemmas.Iterator.Consumers.{YieldsList-end, YieldsList-turn}
use Rattle.mvd_host.specs.Arranging.{Lays}
use Rattle.mvd_host.proofs.Orders.{zip_length, zip_next}
use Rattle.mvd_host.proofs.arranging.Lanes.place_all.Goals as goal

pub loop-request-init : goal.loop-request-init
loop-request-init c = record { place = refl; lays = c.requires.none; room = c.requires.room }

pub bounds-clients-at : goal.bounds-clients-at
bounds-clients-at c =
    let road = YieldsList-from_vec {s = c.into_iter-request-iterator.result} c.args.requests.items (search rules) (search rules) in
    let turn = YieldsList-turn road c.loop-request.yielded c.loop-request.request-iterator c.loop-request.yielded_by c.next.result c.next.new.self c.in-Some.request c.in-Some.is c.next.ensures.steps in
    omega (arith, turn.0, c.requires.count, c.loop-request.invariant.place)

pub place-requires : goal.place-requires
place-requires c =
    let road = YieldsList-from_vec {s = c.into_iter-request-iterator.result} c.args.requests.items (search rules) (search rules) in
    let turn = YieldsList-turn road c.loop-request.yielded c.loop-request.request-iterator c.loop-request.yielded_by c.next.result c.next.new.self c.in-Some.request c.in-Some.is c.next.ensures.steps in
    let yielded = c.loop-request.yielded in
    let taken = length-take-le (length yielded) c.args.clients.now (omega (arith, turn.0, c.requires.count)) in
    let count = zip_length (take (length yielded) c.args.clients.now) yielded taken in
    let at = c.loop-request.invariant in
    let room = at.room in
    record {
      room = (
        zip (take (length yielded) c.args.clients.now) yielded,
        at.lays,
        record {
          first_clients = omega (arith, turn.0, count, room.first_clients);
          first_requests = omega (arith, turn.0, count, room.first_requests);
          second_clients = omega (arith, turn.0, count, room.second_clients);
          second_requests = omega (arith, turn.0, count, room.second_requests);
        },
      );
    }

pub overflow_add-at : goal.overflow_add-at
overflow_add-at c =
    let road = YieldsList-from_vec {s = c.into_iter-request-iterator.result} c.args.requests.items (search rules) (search rules) in
    let turn = YieldsList-turn road c.loop-request.yielded c.loop-request.request-iterator c.loop-request.yielded_by c.next.result c.next.new.self c.in-Some.request c.in-Some.is c.next.ensures.steps in
    omega (arith, turn.0, c.requires.count, c.loop-request.invariant.place)

pub loop-request-preserved : goal.loop-request-preserved
loop-request-preserved c =
    let road = YieldsList-from_vec {s = c.into_iter-request-iterator.result} c.args.requests.items (search rules) (search rules) in
    let turn = YieldsList-turn road c.loop-request.yielded c.loop-request.request-iterator c.loop-request.yielded_by c.next.result c.next.new.self c.in-Some.request c.in-Some.is c.next.ensures.steps in
    let at = c.loop-request.invariant in
    let yielded = c.loop-request.yielded in
    let clients = c.args.clients.now in
    record {
      place = grind (arith, length-append, at.place);
      lays = subst (λ l. Lays l c.place.new.self) (sym (zip_next clients yielded c.in-Some.request c.loop-request.at at.place (omega (arith, turn.0, c.requires.count))))
          (c.place.ensures.lays (zip (take (length yielded) clients) yielded) at.lays);
      room = c.place.ensures.room (length c.args.requests.items) at.room;
    }

pub returns : goal.returns
returns c =
    let road = YieldsList-from_vec {s = c.into_iter-request-iterator.result} c.args.requests.items (search rules) (search rules) in
    let end = YieldsList-end road c.loop-request.yielded c.loop-request.request-iterator c.loop-request.yielded_by c.next.result c.next.new.self c.in-None.is c.next.ensures.steps in
    let all : c.loop-request.yielded ≡ c.args.requests.items = sym (map-id c.loop-request.yielded) ∙ end.0 in
    let at = c.loop-request.invariant in
    let clients = c.args.clients.now in
    record {
      lays = subst (λ l. Lays (zip l c.args.requests.items) c.loop-request.self) (take_all (length c.args.requests.items) clients (omega (arith, c.requires.count)))
          (subst (λ l. Lays (zip (take (length l) clients) l) c.loop-request.self) all at.lays);
      room = at.room;
    }
