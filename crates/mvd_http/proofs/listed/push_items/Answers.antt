use Rattle.std.proofs.Common.{ℕ, ◌∙◌, ◌==◌, ◌++◌, ap, length, string_bytes, sym}
use Rattle.mvd_keys.specs.Writes.{Key}
use Rattle.mvd_http.specs.Json.{commaed}
use Rattle.mvd_http.specs.Listed.{is_told, item_bytes, item_json}
use Rattle.mvd_http.proofs.Listing.{front_end, front_on, front_stop, same_told, told_more, unweighed}
use Rattle.mvd_http.proofs.listed.push_items.Goals as goal
use Rattle.mvd_http.proofs.listed.push_items.Goals.{then-is_told+in_ok-room, else-is_told}

pub loop-index-preserved : goal.loop-index-preserved
loop-index-preserved g c =
    let wanted = c.args.wanted in
    let states = g.H.Holds.states c.args.held.now in
    let keys = c.args.keys.now in
    let i = c.loop-index.index in
    let x = c.index-keys-index.result in
    let bytes : Key × ℕ → ℕ = λ e. item_bytes wanted e (states e.0) in
    let within = c.loop-index-test.true in
    let is = c.index-keys-index.is in
    let was = c.loop-index.invariant in
    elim c.if-is_told.branch [
      | then-is_told+in_ok-room w ↦
          let both = told_more (is_told wanted) (λ e. item_json wanted e (states e.0)) keys i x (string_bytes c.args.out.now) _ _ _ within is (sym c.is_told.ensures ∙ w.if-is_told.true) was.text was.first w.in_ok-room.ensures.text in
          record {
            text = ap string_bytes w.out-is ∙ both.0;
            first = w.is_first-is ∙ both.1;
            front = front_on bytes keys _ i c.loop-index.room _ x within is c.if-room-eq0.false (w.room-is ∙ w.in_ok-room.ensures.room) was.front;
          }
      | else-is_told w ↦
          let same = same_told (is_told wanted) (λ e. item_json wanted e (states e.0)) keys i x within is (sym c.is_told.ensures ∙ w.if-is_told.false) in
          record {
            text = ap string_bytes w.out-is ∙ was.text ∙ ap (λ ks. string_bytes c.args.out.now ++ commaed (λ e. item_json wanted e (states e.0)) ks) (sym same);
            first = w.is_first-is ∙ was.first ∙ ap (λ ks. length ks == 0) (sym same);
            front = front_on bytes keys _ i c.loop-index.room _ x within is c.if-room-eq0.false (w.room-is ∙ unweighed c.loop-index.room (is_told wanted x) _ (sym c.is_told.ensures ∙ w.if-is_told.false)) was.front;
          }
    ]

pub returns-then-room-eq0-clause-front : goal.returns-then-room-eq0-clause-front
returns-then-room-eq0-clause-front g c =
    front_stop (λ e. item_bytes c.args.wanted e (g.H.Holds.states c.args.held.now e.0)) c.args.keys.now _ c.loop-index.index c.loop-index.room c.if-room-eq0.true c.loop-index.invariant.front

pub returns-clause-front : goal.returns-clause-front
returns-clause-front g c =
    front_end (λ e. item_bytes c.args.wanted e (g.H.Holds.states c.args.held.now e.0)) c.args.keys.now _ c.loop-index.index c.loop-index.room c.loop-index-test.false c.loop-index.invariant.front
