use Rattle.std.proofs.Common.{◌∙◌, ◌-◌, ◌++◌, ap, length, refl, string_bytes}
use Rattle.mvd_http.specs.Listed.{place_bytes, place_told}
use Rattle.mvd_http.proofs.Listing.{served, entry_on, front_end, front_on, front_stop}
use Rattle.mvd_http.proofs.places_listed.push_items.Goals as goal

pub loop-index-preserved : goal.loop-index-preserved
loop-index-preserved g c =
    let states = g.H.Holds.states c.args.held.now in
    let documents = c.args.documents in
    let places = c.args.places.now in
    let i = c.loop-index.index in
    let x = c.index-places-index.result in
    let within = c.loop-index-test.true in
    let is = c.index-places-index.is in
    let as_told = served documents states _ x c.in_ok-look_up.ensures.served in
    record {
      near = c.in_ok-look_up.ensures.served;
      text = entry_on (place_told documents states) places i x (string_bytes c.args.out.now) _ _ _ _ within is c.loop-index.invariant.text refl c.in_ok-push_comma.ensures (c.in_ok-told.ensures.text ∙ ap (λ t. string_bytes c.push_comma.new.out ++ t) as_told);
      front = front_on (place_bytes documents states) places _ i c.loop-index.room _ x within is c.if-room-eq0.false (c.saturating_sub-room.ensures ∙ ap (λ n. c.loop-index.room - n) (c.in_ok-told.ensures.told ∙ ap length as_told)) c.loop-index.invariant.front;
    }

pub returns-then-room-eq0-clause-front : goal.returns-then-room-eq0-clause-front
returns-then-room-eq0-clause-front g c =
    front_stop (place_bytes c.args.documents (g.H.Holds.states c.args.held.now)) c.args.places.now _ c.loop-index.index c.loop-index.room c.if-room-eq0.true c.loop-index.invariant.front

pub returns-clause-front : goal.returns-clause-front
returns-clause-front g c =
    front_end (place_bytes c.args.documents (g.H.Holds.states c.args.held.now)) c.args.places.now _ c.loop-index.index c.loop-index.room c.loop-index-test.false c.loop-index.invariant.front
